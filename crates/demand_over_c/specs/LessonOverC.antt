-- A lesson over C: learners call on one book, which is bytes in the caller's memory, in any order
-- and as often as they like. What a call answers and leaves is what its export promises
-- (mqarbset/src/book.rt); proofs/Exports.antt shows that. Cited by specs/DemandOverC.antt.
-- Assumes nothing.
use Rattle.std.specs.Prelude.{List, [], ◌∷◌, map, ℕ}
use Rattle.classbook.specs.Book.{empty_book}
use Rattle.classbook.specs.Calls.{open_answer, cancel_answer, close_answer}
use Rattle.summaries.specs.Summaries.{summary_answer}
use Rattle.mqarbset_answers.specs.declared.MqAnswer.{MqAnswer}
use Rattle.mqarbset_answers.specs.declared.at_a_glance.MqSummary.{MqSummary}
use Rattle.mqarbset_answers.specs.Answers.{outcome_as_c}
use Rattle.mqarbset_answers.specs.Summaries.{summary_as_c}
use Rattle.mqarbset_book.specs.declared.MqBook.{MqBook}
use Rattle.mqarbset_book.specs.declared.MqBookAnswer.{MqBookAnswer}
use Rattle.mqarbset_book.specs.Mirror.{read_book, write_book}
use Rattle.mqarbset_book.specs.Calls.{handed_back, book_answer_over_c}
use Rattle.mqarbset_list.specs.Records.{records_outcome}

-- what may be asked, with every argument but the book and the seat; a list is lent bytes
pub data CallOverC : Type 0 where
  opens : (cell case k long short : ℕ) → CallOverC
  books : (timeslot direction burst factor index user tfci tpc : ℕ) → CallOverC
  cancels : (timeslot factor index : ℕ) → CallOverC
  closes : CallOverC
  lists : (lent : List ℕ) → CallOverC
  glances : (timeslot : ℕ) → CallOverC

-- a learner, who is known by the seat and names no other, makes a call
pub record TurnOverC : Type 0 where
  pub seat : ℕ
  pub call : CallOverC

-- what mq_open_value, mq_book_value, mq_cancel_value and mq_close_value hand back for the bytes m
module _ (m : MqBook) (seat : ℕ) where
  abbrev pub open_over_c : ℕ → ℕ → ℕ → ℕ → ℕ → MqBookAnswer
  open_over_c cell case k long short =
      handed_back m (open_answer (read_book m) seat cell case k long short)

  abbrev pub book_over_c : ℕ → ℕ → ℕ → ℕ → ℕ → ℕ → ℕ → ℕ → MqBookAnswer
  book_over_c timeslot direction burst factor index user tfci tpc =
      let b = read_book m in
      handed_back m (book_answer_over_c b seat timeslot direction burst factor index user tfci tpc)

  abbrev pub cancel_over_c : ℕ → ℕ → ℕ → MqBookAnswer
  cancel_over_c timeslot factor index =
      handed_back m (cancel_answer (read_book m) seat timeslot factor index)

  abbrev pub close_over_c : MqBookAnswer
  close_over_c = handed_back m (close_answer (read_book m) seat)

  -- and mq_list_bytes, with the lent bytes afterwards
  abbrev pub list_over_c : List ℕ → MqAnswer × List ℕ
  list_over_c lent = outcome_as_c (records_outcome (read_book m) seat lent)

  -- and mq_summary_value
  abbrev pub summary_over_c : ℕ → MqSummary
  summary_over_c timeslot = summary_as_c (summary_answer (read_book m) seat timeslot)

-- what the learner gets: the refusal's number, or 0; of a list the struct and the lent bytes after
-- it; of a summary the struct
pub data ReplyOverC : Type 0 where
  number : ℕ → ReplyOverC
  listed : MqAnswer × List ℕ → ReplyOverC
  summed : MqSummary → ReplyOverC

unfoldable pub reply_over_c : MqBook → ℕ → CallOverC → ReplyOverC
reply_over_c m seat (opens cell case k long short) =
    number (open_over_c m seat cell case k long short).refusal
reply_over_c m seat (books timeslot direction burst factor index user tfci tpc) =
    number (book_over_c m seat timeslot direction burst factor index user tfci tpc).refusal
reply_over_c m seat (cancels timeslot factor index) =
    number (cancel_over_c m seat timeslot factor index).refusal
reply_over_c m seat closes = number (close_over_c m seat).refusal
reply_over_c m seat (lists lent) = listed (list_over_c m seat lent)
reply_over_c m seat (glances timeslot) = summed (summary_over_c m seat timeslot)

-- the number with which a reply refuses, or 0
unfoldable pub refusal_of : ReplyOverC → ℕ
refusal_of (number n) = n
refusal_of (listed r) = r.0.refusal
refusal_of (summed r) = r.refusal

-- the bytes that a call leaves; a list and a summary leave them as they are
unfoldable pub next_over_c : MqBook → ℕ → CallOverC → MqBook
next_over_c m seat (opens cell case k long short) = (open_over_c m seat cell case k long short).book
next_over_c m seat (books timeslot direction burst factor index user tfci tpc) =
    (book_over_c m seat timeslot direction burst factor index user tfci tpc).book
next_over_c m seat (cancels timeslot factor index) = (cancel_over_c m seat timeslot factor index).book
next_over_c m seat closes = (close_over_c m seat).book
next_over_c m seat (lists lent) = m
next_over_c m seat (glances timeslot) = m

-- the bytes after all turns of a lesson
unfoldable pub run_over_c : MqBook → List TurnOverC → MqBook
run_over_c m [] = m
run_over_c m (t ∷ ts) = run_over_c (next_over_c m t.seat t.call) ts

-- the log of a lesson: each turn with its reply
pub record LineOverC : Type 0 where
  pub turn : TurnOverC
  pub reply : ReplyOverC

unfoldable pub log_over_c : MqBook → List TurnOverC → List LineOverC
log_over_c m [] = []
log_over_c m (t ∷ ts) =
    record { turn = t; reply = reply_over_c m t.seat t.call } ∷
    log_over_c (next_over_c m t.seat t.call) ts

-- the turns that a log tells of
unfoldable pub turns_over_c : List LineOverC → List TurnOverC
turns_over_c ls = map (λ (l : LineOverC). l.turn) ls

-- the bytes that a lesson starts on: what mq_empty_book hands out
abbrev pub empty_bytes : MqBook
empty_bytes = write_book empty_book

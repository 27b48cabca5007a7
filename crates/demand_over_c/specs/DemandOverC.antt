-- Demand 3 over C: what holds after every lesson over C, that is, every finite sequence of C calls
-- by the sixteen learners, in any order, from the bytes of an empty book. Proved in
-- proofs/DemandOverC.antt. Assumes nothing.
use Rattle.std.specs.Prelude.{◌≡◌, Bool, true, cond, not, ◌&&◌, List, [], ◌∷◌, ℕ, ◌≤◌, ◌<◌, eqb}
use Rattle.classbook.specs.declared.Book.{Book}
use Rattle.classbook.specs.Book.{seat_of, plan_of, common}
use Rattle.demand.specs.Demand.{holds}
use Rattle.mqarbset_book.specs.declared.MqBook.{MqBook}
use Rattle.mqarbset_book.specs.Mirror.{proper, read_book}
use Rattle.demand_over_c.specs.Bytes.{part_of}
use Rattle.demand_over_c.specs.LessonOverC.{CallOverC, lists, glances, TurnOverC}
use Rattle.demand_over_c.specs.LessonOverC.{reply_over_c, refusal_of, run_over_c, LineOverC}
use Rattle.demand_over_c.specs.LessonOverC.{log_over_c, turns_over_c, empty_bytes}

-- the bytes after a lesson
abbrev pub bytes_after : List TurnOverC → MqBook
bytes_after ts = run_over_c empty_bytes ts

-- the book that they say
abbrev pub book_said : List TurnOverC → Book
book_said ts = read_book (bytes_after ts)

-- (a) "nobody holds more than 40 bookings"; and the seat's count is what its plan lists
unfoldable pub AtMostFortyOverC : List TurnOverC → Type 0
AtMostFortyOverC ts =
    (i : ℕ) → (holds (book_said ts) i ≤ 40) × ((seat_of (book_said ts) i).count ≡ holds (book_said ts) i)

-- (b) "at most 80 in all lie beyond the first tens"
unfoldable pub AtMostEightyOverC : List TurnOverC → Type 0
AtMostEightyOverC ts = common (book_said ts) ≤ 80

-- (c) "whoever holds fewer than 10 is never refused 19 or 20", whatever is asked next
unfoldable pub TensAreSafeOverC : List TurnOverC → Type 0
TensAreSafeOverC ts =
    (i : ℕ) (c : CallOverC) → holds (book_said ts) i < 10
    → (refusal_of (reply_over_c (bytes_after ts) i c) ≡ 19 → ⊥)
    × (refusal_of (reply_over_c (bytes_after ts) i c) ≡ 20 → ⊥)

-- (d) "with a learner's own calls that were refused 20 struck out"
unfoldable pub stays_over_c : ℕ → LineOverC → Bool
stays_over_c i l = eqb l.turn.seat i && not (eqb (refusal_of l.reply) 20)

unfoldable pub kept_over_c : ℕ → List LineOverC → List LineOverC
kept_over_c i [] = []
kept_over_c i (l ∷ ls) = cond (stays_over_c i l) (l ∷ kept_over_c i ls) (kept_over_c i ls)

-- what is left of the log of a lesson for learner i
abbrev pub left_over_c : ℕ → List TurnOverC → List LineOverC
left_over_c i ts = kept_over_c i (log_over_c empty_bytes ts)

-- and the lesson of these turns alone
abbrev pub alone_over_c : ℕ → List TurnOverC → List TurnOverC
alone_over_c i ts = turns_over_c (left_over_c i ts)

-- "the rest of that learner's calls, made alone on an empty book, get the same answers": every
-- number, of every list the struct and the lent bytes, and of every summary the struct; "and leave
-- the same plan": the same bytes of the seat too, the same list afterwards, whatever is lent for
-- it, and the same summary of every timeslot
pub record AsIfAloneOverC (i : ℕ) (ts : List TurnOverC) : Type 0 where
  pub same_answers : log_over_c empty_bytes (alone_over_c i ts) ≡ left_over_c i ts
  pub same_plan : plan_of (seat_of (book_said (alone_over_c i ts)) i) ≡ plan_of (seat_of (book_said ts) i)
  pub same_bytes : part_of (bytes_after (alone_over_c i ts)) i ≡ part_of (bytes_after ts) i
  pub same_list : (lent : List ℕ)
      → reply_over_c (bytes_after (alone_over_c i ts)) i (lists lent)
      ≡ reply_over_c (bytes_after ts) i (lists lent)
  pub same_summary : (timeslot : ℕ)
      → reply_over_c (bytes_after (alone_over_c i ts)) i (glances timeslot)
      ≡ reply_over_c (bytes_after ts) i (glances timeslot)

-- Demand 3, of one lesson over C; its bytes are proper, so that what they say is what they hold
pub record Demand3OverC (ts : List TurnOverC) : Type 0 where
  pub proper_bytes : proper (bytes_after ts) ≡ true
  pub at_most_forty : AtMostFortyOverC ts
  pub at_most_eighty : AtMostEightyOverC ts
  pub tens_are_safe : TensAreSafeOverC ts
  pub as_if_alone : (i : ℕ) → AsIfAloneOverC i ts

-- Demand 3 over C: the theorem, for every finite sequence of C calls by all learners, in any order,
-- from the bytes of an empty book. What it says stands in specs/DemandOverC.antt. Cited by docs/.
-- Assumes nothing.
use mathlib.Core.Path.{◌≡◌, refl, sym, ap, subst, ◌∙◌}
use mathlib.Core.Bool.{Bool, true, not}
use mathlib.Core.List.{List, [], ◌∷◌, ◌++◌}
use Prim.Native.Nat.{ℕ, ◌*◌, ◌≤◌, ◌<◌}
use lib.ListN.{length, drop}
use Rattle.refusals.specs.Refusals.{Answer, Refusals, Outcome, ◌leaving◌, first_of, answer, after}
use Rattle.conditions.specs.Conditions.{bad_timeslot, too_short}
use Rattle.slots.specs.Slots.{slot_of}
use Rattle.seats.specs.declared.Seat.{Seat}
use Rattle.seats.specs.Seats.{bookings}
use Rattle.classbook.specs.declared.Book.{Book}
use Rattle.classbook.specs.Book.{empty_book, seat_of, plan_of, common}
use Rattle.classbook.specs.Conditions.{bad_book, bad_seat, not_open}
use Rattle.classbook.specs.Calls.{seat_refusals}
use Rattle.summaries.specs.declared.Glance.{Glance}
use Rattle.summaries.specs.Summaries.{summary_refusals, glance_of, summary_answer}
use Rattle.demand.specs.Lesson.{Turn, reply, number_of, log, turns}
use Rattle.demand.specs.Demand.{holds, book_after, AtMostForty, AtMostEighty, TensAreSafe, left}
use Rattle.demand.proofs.Books.{Good}
use Rattle.demand.proofs.Alone.{alone_from_empty}
use Rattle.demand.proofs.Demand3.{lesson_good, demand_3}
use Rattle.mqarbset_book.specs.declared.MqBook.{MqBook}
use Rattle.mqarbset_book.specs.Mirror.{proper, read_book, write_book}
use Rattle.mqarbset_book.proofs.Kept.{written_proper, kept}
use Rattle.mqarbset_answers.specs.Answers.{outcome_as_c}
use Rattle.mqarbset_answers.specs.Summaries.{summary_as_c}
use Rattle.mqarbset_list.specs.Records.{records_of, records_refusals, records_outcome}
use Rattle.demand_over_c.specs.Bytes.{part_of, Whole}
use Rattle.demand_over_c.specs.LessonOverC.{TurnOverC, CallOverC, lists, glances, listed}
use Rattle.demand_over_c.specs.LessonOverC.{summed, reply_over_c, refusal_of, next_over_c}
use Rattle.demand_over_c.specs.LessonOverC.{log_over_c, empty_bytes}
use Rattle.demand_over_c.specs.ByValue.{asked, asked_turns, told_lines}
use Rattle.demand_over_c.specs.DemandOverC.{bytes_after, book_said, left_over_c, alone_over_c}
use Rattle.demand_over_c.specs.DemandOverC.{AtMostFortyOverC, AtMostEightyOverC}
use Rattle.demand_over_c.specs.DemandOverC.{TensAreSafeOverC, AsIfAloneOverC, Demand3OverC}
use Rattle.demand_over_c.proofs.Step.{same_refusal}
use Rattle.demand_over_c.proofs.Turns.{run_proper, run_again, run_says, log_told}
use Rattle.demand_over_c.proofs.Turns.{left_told}
use Rattle.demand_over_c.proofs.Parts.{written_whole, same_part}
use Rattle.demand_over_c.proofs.Untouched.{others_untouched}

-- the bytes that a lesson starts on say an empty book
start_says : read_book empty_bytes ≡ empty_book
start_says = kept empty_book

-- ---- every lesson over C has the replies of the lesson by value, and bytes that say its book
module _ (ts : List TurnOverC) where
  pub bytes_proper : proper (bytes_after ts) ≡ true
  bytes_proper = run_proper ts empty_bytes (written_proper empty_book)

  pub bytes_say : book_said ts ≡ book_after (asked_turns ts)
  bytes_say = run_says ts empty_bytes empty_book start_says

  pub replies_told : log_over_c empty_bytes ts ≡ told_lines ts (log empty_book (asked_turns ts))
  replies_told = log_told ts empty_bytes empty_book start_says

  -- the bytes are those of that book and no other
  pub bytes_written : bytes_after ts ≡ write_book (book_after (asked_turns ts))
  bytes_written =
      sym (run_again ts empty_bytes (ap write_book start_says)) ∙ ap write_book bytes_say

  -- and they have the sizes of their type
  pub bytes_whole : Whole (bytes_after ts)
  bytes_whole =
      subst (λ (m : MqBook). Whole m) (sym bytes_written)
      (written_whole (book_after (asked_turns ts)) (lesson_good (asked_turns ts)))

-- ---- (a) to (c)
module _ (ts : List TurnOverC) where
  at_most_forty : AtMostFortyOverC ts
  unfolding AtMostFortyOverC AtMostForty
  at_most_forty i =
      subst (λ (b : Book). (holds b i ≤ 40) × ((seat_of b i).count ≡ holds b i)) (sym (bytes_say ts))
      ((demand_3 (asked_turns ts)).at_most_forty i)

  at_most_eighty : AtMostEightyOverC ts
  unfolding AtMostEightyOverC AtMostEighty
  at_most_eighty =
      subst (λ (b : Book). common b ≤ 80) (sym (bytes_say ts))
      (demand_3 (asked_turns ts)).at_most_eighty

  tens_are_safe : TensAreSafeOverC ts
  unfolding TensAreSafeOverC TensAreSafe
  tens_are_safe i c few =
      let few-said = subst (λ (b : Book). holds b i < 10) (bytes_say ts) few in
      let safe = (demand_3 (asked_turns ts)).tens_are_safe i (asked c) few-said in
      (λ e. safe.0 (by_value ∙ e), λ e. safe.1 (by_value ∙ e))
    where
      by_value : number_of (reply (book_after (asked_turns ts)) i (asked c))
          ≡ refusal_of (reply_over_c (bytes_after ts) i c)
      by_value =
          ap (λ (b : Book). number_of (reply b i (asked c))) (sym (bytes_say ts))
          ∙ sym (same_refusal (bytes_after ts) i c)

-- ---- (d)

-- a list is the caller's own seat's, but for whether the book breaks its conditions
module _ (i : ℕ) (lent : List ℕ) where
  abbrev table : Bool → Seat → Refusals
  table bad s = (11, too_short 320 lent) ∷ (12, bad) ∷ (13, bad_seat i) ∷ (14, not s.live) ∷ []

  abbrev own : Bool → Seat → Outcome ℕ (List ℕ)
  own bad s =
      let n = first_of (table bad s) in
      let l = bookings s in
      answer n (length l) leaving after n lent (records_of l ++ drop (8 * length l) lent)

  list_own : (b : Book) → records_outcome b i lent ≡ own (bad_book b) (seat_of b i)
  unfolding records_outcome records_refusals seat_refusals not_open
  list_own b = refl

  same_outcome : (b c : Book) → Good b → Good c → seat_of b i ≡ seat_of c i
      → records_outcome b i lent ≡ records_outcome c i lent
  unfolding bad_book
  same_outcome b c g h e =
      list_own b
      ∙ ap (λ (ok : Bool). own (not ok) (seat_of b i)) (g.ok ∙ sym h.ok)
      ∙ ap (own (bad_book c)) e
      ∙ sym (list_own c)

-- and so is a summary
module _ (i timeslot : ℕ) where
  abbrev glance_table : Bool → Seat → Refusals
  glance_table bad s =
      (5, bad_timeslot timeslot) ∷ (12, bad) ∷ (13, bad_seat i) ∷ (14, not s.live) ∷ []

  abbrev own_glance : Bool → Seat → Answer Glance
  own_glance bad s =
      answer (first_of (glance_table bad s)) (glance_of (slot_of timeslot (bookings s)))

  summary_own : (b : Book) → summary_answer b i timeslot ≡ own_glance (bad_book b) (seat_of b i)
  unfolding summary_answer summary_refusals seat_refusals not_open
  summary_own b = refl

  same_glance : (b c : Book) → Good b → Good c → seat_of b i ≡ seat_of c i
      → summary_answer b i timeslot ≡ summary_answer c i timeslot
  unfolding bad_book
  same_glance b c g h e =
      summary_own b
      ∙ ap (λ (ok : Bool). own_glance (not ok) (seat_of b i)) (g.ok ∙ sym h.ok)
      ∙ ap (own_glance (bad_book c)) e
      ∙ sym (summary_own c)

module _ (i : ℕ) (ts : List TurnOverC) where
  abbrev vs : List Turn
  vs = asked_turns ts

  abbrev alone : List TurnOverC
  alone = alone_over_c i ts

  -- the learner's own turns by value are those that the lesson by value leaves
  own_turns : asked_turns alone ≡ turns (left i vs)
  own_turns = (left_told i ts empty_bytes empty_book start_says).same_turns

  same_answers : log_over_c empty_bytes alone ≡ left_over_c i ts
  same_answers =
      replies_told alone
      ∙ ap (λ (us : List Turn). told_lines alone (log empty_book us)) own_turns
      ∙ ap (told_lines alone) ((demand_3 vs).as_if_alone i).same_answers
      ∙ sym (left_told i ts empty_bytes empty_book start_says).same_lines

  -- the books of both lessons by value
  abbrev lone : Book
  lone = book_after (asked_turns alone)

  abbrev crowd : Book
  crowd = book_after vs

  lone_good : Good lone
  lone_good = lesson_good (asked_turns alone)

  crowd_good : Good crowd
  crowd_good = lesson_good vs

  same_seat : seat_of lone i ≡ seat_of crowd i
  same_seat =
      ap (λ (us : List Turn). seat_of (book_after us) i) own_turns ∙ (alone_from_empty i vs).seat

  said_seat : seat_of (book_said alone) i ≡ seat_of (book_said ts) i
  said_seat =
      ap (λ (b : Book). seat_of b i) (bytes_say alone)
      ∙ same_seat
      ∙ ap (λ (b : Book). seat_of b i) (sym (bytes_say ts))

  same_bytes : part_of (bytes_after alone) i ≡ part_of (bytes_after ts) i
  same_bytes =
      ap (λ (m : MqBook). part_of m i) (bytes_written alone)
      ∙ same_part lone crowd lone_good crowd_good i same_seat
      ∙ ap (λ (m : MqBook). part_of m i) (sym (bytes_written ts))

  same_list : (lent : List ℕ)
      → reply_over_c (bytes_after alone) i (lists lent) ≡ reply_over_c (bytes_after ts) i (lists lent)
  unfolding reply_over_c
  same_list lent =
      ap (λ (b : Book). listed (outcome_as_c (records_outcome b i lent))) (bytes_say alone)
      ∙ ap (λ o. listed (outcome_as_c o))
      (same_outcome i lent lone crowd lone_good crowd_good same_seat)
      ∙ ap (λ (b : Book). listed (outcome_as_c (records_outcome b i lent))) (sym (bytes_say ts))

  same_summary : (timeslot : ℕ)
      → reply_over_c (bytes_after alone) i (glances timeslot)
      ≡ reply_over_c (bytes_after ts) i (glances timeslot)
  unfolding reply_over_c
  same_summary timeslot =
      ap (λ (b : Book). summed (summary_as_c (summary_answer b i timeslot))) (bytes_say alone)
      ∙ ap (λ (a : Answer Glance). summed (summary_as_c a))
      (same_glance i timeslot lone crowd lone_good crowd_good same_seat)
      ∙ ap (λ (b : Book). summed (summary_as_c (summary_answer b i timeslot))) (sym (bytes_say ts))

  as_if_alone : AsIfAloneOverC i ts
  as_if_alone =
      record {
        same_answers = same_answers;
        same_plan = ap plan_of said_seat;
        same_bytes = same_bytes;
        same_list = same_list;
        same_summary = same_summary;
      }

pub demand_3_over_c : (ts : List TurnOverC) → Demand3OverC ts
demand_3_over_c ts =
    record {
      proper_bytes = bytes_proper ts;
      at_most_forty = at_most_forty ts;
      at_most_eighty = at_most_eighty ts;
      tens_are_safe = tens_are_safe ts;
      as_if_alone = λ i. as_if_alone i ts;
    }

-- Open, book, cancel and close change the named seat only: no turn touches a byte of another's
pub turn_untouched : (ts : List TurnOverC) (i : ℕ) (c : CallOverC) (j : ℕ) → (j ≡ i → ⊥)
    → part_of (next_over_c (bytes_after ts) i c) j ≡ part_of (bytes_after ts) j
turn_untouched ts i c j apart = others_untouched (bytes_after ts) (bytes_whole ts) i c j apart

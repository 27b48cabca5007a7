-- "Demand 3 alone is met by a book that drops every booking and lists nothing; the meaning of the calls above shuts it out, as it does a book that keeps the first
-- booking only, and a list that reports a length other than its bookings": the meaning, after any lesson. Cited by docs/. Assumes nothing.
use mathlib.Core.Path.{◌≡◌, sym, ap, ◌∙◌}
use mathlib.Core.List.{List, ◌++◌}
use Prim.Native.Nat.{ℕ, ◌+◌}
use lib.ListN.{length, drop}
use Rattle.refusals.specs.Refusals.{answered, ◌leaving◌, first_of, after}
use Rattle.refusals.proofs.First.{answer_answered, after_answered}
use Rattle.bookings.specs.declared.Booking.{Booking}
use Rattle.seats.specs.Seats.{bookings, insert}
use Rattle.plans.proofs.Kept.{insert-length}
use Rattle.classbook.specs.declared.Request.{Request}
use Rattle.classbook.specs.Book.{Plan, plan_of, seat_of}
use Rattle.classbook.specs.Calls.{as_booking}
use Rattle.classbook.proofs.Valid.{Sized}
use Rattle.classbook.proofs.Meaning.{booked_plan}
use Rattle.listing.specs.Listing.{list_refusals, list_outcome}
use Rattle.slots.specs.Slots.{slot_of}
use Rattle.summaries.specs.Summaries.{summary_refusals, glance_of, summary_answer}
use Rattle.demand.specs.Lesson.{Turn, books, lists, glances, listed, summed, reply, number_of, next}
use Rattle.demand.specs.Demand.{holds, book_after}
use Rattle.demand.proofs.Own.{list_number, summary_number}
use Rattle.demand.proofs.Demand3.{lesson_good}

module _ (ts : List Turn) (i : ℕ) where
  sized : Sized (book_after ts)
  sized = record { seats = (lesson_good ts).sixteen; rows = λ j low. (lesson_good ts).wide j }

  -- a booking that is not refused is in the plan, in its place, and every earlier one still is
  pub booking_stands : (x : Request) → number_of (reply (book_after ts) i (books x)) ≡ 0
      → (plan_of (seat_of (next (book_after ts) i (books x)) i)).list ≡ insert (as_booking x) (plan_of (seat_of (book_after ts) i)).list
  unfolding reply number_of next plan_of
  booking_stands x z = ap (λ (p : Plan). p.list) (booked_plan (book_after ts) sized i x z)

  -- so the learner holds one more: neither no booking nor the first only
  pub booking_counts : (x : Request) → number_of (reply (book_after ts) i (books x)) ≡ 0 → holds (next (book_after ts) i (books x)) i ≡ holds (book_after ts) i + 1
  booking_counts x z =
      ap (λ (l : List Booking). length l) (booking_stands x z) ∙ insert-length (as_booking x) (plan_of (seat_of (book_after ts) i)).list

  -- a list that is not refused says how many the learner holds, and the lent records are then the plan's list, and behind it what they were
  pub list_is_plan : (lent : List Booking) → number_of (reply (book_after ts) i (lists lent)) ≡ 0
      → reply (book_after ts) i (lists lent)
      ≡ listed (answered (holds (book_after ts) i) leaving ((plan_of (seat_of (book_after ts) i)).list ++ drop (holds (book_after ts) i) lent))
  unfolding reply plan_of list_outcome
  list_is_plan lent z =
      let b = book_after ts in
      let n = first_of (list_refusals b i lent) in
      let l = bookings (seat_of b i) in
      let zero : n ≡ 0 = sym (list_number b i lent) ∙ z in
      ap (λ a. listed (a leaving after n lent (l ++ drop (length l) lent))) (answer_answered n (length l) zero)
      ∙ ap (λ (r : List Booking). listed (answered (length l) leaving r)) (after_answered n lent (l ++ drop (length l) lent) zero)

  -- a summary that is not refused says what the plan's bookings say of that timeslot
  pub summary_is_plan : (timeslot : ℕ) → number_of (reply (book_after ts) i (glances timeslot)) ≡ 0
      → reply (book_after ts) i (glances timeslot) ≡ summed (answered (glance_of (slot_of timeslot (plan_of (seat_of (book_after ts) i)).list)))
  unfolding reply plan_of summary_answer
  summary_is_plan timeslot z =
      let b = book_after ts in
      ap summed (answer_answered (first_of (summary_refusals b i timeslot)) (glance_of (slot_of timeslot (bookings (seat_of b i)))) (sym (summary_number b i timeslot) ∙ z))

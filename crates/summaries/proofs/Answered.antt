-- A summary's answer by its refusals; and that what is kept of the timeslot is what the bookings say, wherever it is answered. Cited by summary's proof.
-- Assumes nothing.
use mathlib.Core.Path.{◌≡◌, sym, ap, ◌∙◌}
use mathlib.Core.Bool.{true, false}
use mathlib.Core.List.{List}
use Prim.Native.Nat.{ℕ, ◌≤◌}
use lib.ListN.{get_or}
use borrow.Author.Tests.{ltb-false}
use Rattle.std.specs.Prelude.{Result, Ok, Err}
use Rattle.std.specs.Result.{IsErrAnd}
use Rattle.refusals.specs.declared.Refusal.{Refusal}
use Rattle.refusals.specs.Refusals.{refused, answered, first_of, answer, number_of, said}
use Rattle.refusals.proofs.First.{answer_refused, answer_answered}
use Rattle.conditions.specs.Conditions.{bad_timeslot}
use Rattle.slots.specs.declared.Slot.{Slot}
use Rattle.slots.proofs.Summary.{summary_at}
use Rattle.seats.specs.declared.Seat.{Seat}
use Rattle.seats.specs.Seats.{bookings}
use Rattle.seats.proofs.Sound.{sound}
use Rattle.classbook.specs.declared.Book.{Book}
use Rattle.classbook.specs.Book.{seat_of}
use Rattle.classbook.specs.Calls.{seat_refusals}
use Rattle.classbook.proofs.Passed.{named_seat_good, seat_passed}
use Rattle.summaries.specs.declared.Glance.{Glance}
use Rattle.summaries.specs.Summaries.{summary_refusals, glance_of, summary_answer}

-- a result that refuses says so by its number
pub said_refused : (r : Result Glance Refusal) (e : Refusal) → IsErrAnd r (λ y. y ≡ e) → said r ≡ refused (number_of e)
said_refused (Ok v) e h = absurd h
said_refused (Err y) e h = ap (λ (x : Refusal). refused (number_of x)) h

module _ (b : Book) (seat timeslot : ℕ) where
  pub refused_5 : bad_timeslot timeslot ≡ true → refused 5 ≡ summary_answer b seat timeslot
  unfolding summary_answer summary_refusals first_of answer
  refused_5 t = simp t

  module _ (low : bad_timeslot timeslot ≡ false) where
    table : first_of (summary_refusals b seat timeslot) ≡ first_of (seat_refusals b seat)
    unfolding summary_refusals first_of
    table = simp low

    pub refused_by_seat : (n : ℕ) → n ≡ first_of (seat_refusals b seat) → (n ≡ 0 → ⊥) → refused n ≡ summary_answer b seat timeslot
    unfolding summary_answer
    refused_by_seat n e some =
        let same : n ≡ first_of (summary_refusals b seat timeslot) = e ∙ sym table in
        ap refused same ∙ sym (answer_refused (first_of (summary_refusals b seat timeslot)) _ (λ z. some (same ∙ z)))

    high : timeslot ≤ 14
    unfolding bad_timeslot
    high = ltb-false 14 timeslot low

    pub summed : (s : Seat) (d : Slot) → 0 ≡ first_of (seat_refusals b seat) → s ≡ seat_of b seat
        → answered (glance_of (get_or s.slots timeslot d)) ≡ summary_answer b seat timeslot
    unfolding summary_answer
    summed s d e es =
        let p = seat_passed b seat (sym e) in
        let agrees = (sound (seat_of b seat) (named_seat_good b seat p.valid)).agrees in
        ap (λ (t : Seat). answered (glance_of (get_or t.slots timeslot d))) es
        ∙ ap (λ (w : List Slot). answered (glance_of (get_or w timeslot d))) agrees
        ∙ ap (λ (v : Slot). answered (glance_of v)) (summary_at (bookings (seat_of b seat)) d timeslot high)
        ∙ sym (answer_answered (first_of (summary_refusals b seat timeslot)) _ (table ∙ sym e))

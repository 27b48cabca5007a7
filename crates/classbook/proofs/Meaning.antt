-- What the calls mean for the plans: nobody else's seat is touched; a booking accepted stands in its place and nothing else moved; cancel, close and list do
-- exactly what document 01 says; and when 19 and 20 are given. Over the answers that the promises cite. Assumes nothing.
use mathlib.Core.Path.{◌≡◌, refl, sym, ap, ◌∙◌}
use mathlib.Core.Logic.{⊎_elim}
use mathlib.Core.List.{List}
use Prim.Native.Nat.{ℕ, ◌+◌, ◌≤◌, ◌<◌}
use native.Mathlib.Omega.{arith}
use lib.Dec.{eqb}
use lib.ListN.{length, take, get_or, replicate}
use lib.Seq.{get_or-set_same, get_or-set_other}
use borrow.Author.Tests.{eqb-true, eqb-false}
use Rattle.laws.proofs.Lists.{by_cases}
use Rattle.refusals.specs.Refusals.{first_of, after}
use Rattle.refusals.proofs.First.{after_refused, after_answered}
use Rattle.bookings.specs.declared.Booking.{Booking}
use Rattle.seats.specs.declared.Seat.{Seat}
use Rattle.seats.specs.Seats.{closed, held, bookings, insert, without, with_plan, blank}
use Rattle.plans.proofs.Plans.{plan_length, with_plan-bookings}
use Rattle.plans.proofs.Kept.{insert-length}
use Rattle.plans.proofs.Cancelled.{without_length}
use Rattle.classbook.specs.declared.Book.{Book}
use Rattle.classbook.specs.declared.Request.{Request}
use Rattle.classbook.specs.Book.{Plan, plan_of, seat_of, with_seat, beyond, common}
use Rattle.classbook.specs.Calls.{open_seat, open_answer, long_count, short_count, as_booking, booked, book_answer, cancelled, cancel_answer, seat_refusals, close_answer, list_answer}
use Rattle.classbook.proofs.Passed.{open_passed, book_passed, cancel_passed, seat_passed}
use Rattle.classbook.proofs.Valid.{Sized, room_after}

-- ---- nobody else's seat is touched, whatever the book and whatever is asked
other_seat : (n : ℕ) (b : Book) (seat : ℕ) (s : Seat) (other : ℕ) → (other ≡ seat → ⊥) → seat_of (after n b (with_seat b seat s)) other ≡ seat_of b other
unfolding seat_of with_seat
other_seat n b seat s other apart =
    ⊎_elim
    (λ t. ap (λ (c : Book). get_or c.seats other closed) (after_answered n b (with_seat b seat s) (eqb-true n 0 t)) ∙ get_or-set_other b.seats seat other s closed apart)
    (λ f. ap (λ (c : Book). get_or c.seats other closed) (after_refused n b (with_seat b seat s) (eqb-false n 0 f)))
    (by_cases (eqb n 0))

module _ (b : Book) (seat other : ℕ) (apart : other ≡ seat → ⊥) where
  pub open_apart : (cell case k long short : ℕ) → seat_of (open_answer b seat cell case k long short).book other ≡ seat_of b other
  unfolding open_answer
  open_apart cell case k long short = other_seat _ b seat _ other apart

  pub book_apart : (x : Request) → seat_of (book_answer b seat x).book other ≡ seat_of b other
  unfolding book_answer booked
  book_apart x = other_seat _ b seat _ other apart

  pub cancel_apart : (timeslot factor index : ℕ) → seat_of (cancel_answer b seat timeslot factor index).book other ≡ seat_of b other
  unfolding cancel_answer cancelled
  cancel_apart timeslot factor index = other_seat _ b seat _ other apart

  pub close_apart : seat_of (close_answer b seat).book other ≡ seat_of b other
  unfolding close_answer
  close_apart = other_seat _ b seat _ other apart

-- ---- the seat itself, where the call was not refused
pub own_seat : (n : ℕ) (b : Book) (seat : ℕ) (s : Seat) → n ≡ 0 → seat < length b.seats → seat_of (after n b (with_seat b seat s)) seat ≡ s
unfolding seat_of with_seat
own_seat n b seat s z low =
    ap (λ (c : Book). get_or c.seats seat closed) (after_answered n b (with_seat b seat s) z) ∙ get_or-set_same b.seats seat s closed low

-- the plan with another list
abbrev pub listing : Seat → List Booking → Plan
listing s l = record { live = s.live; cell = s.cell; case = s.case; k = s.k; long = s.long; short = s.short; list = l }

with_plan_plan : (s : Seat) (l : List Booking) → length l ≤ 40 → plan_of (with_plan s l) ≡ listing s l
unfolding plan_of with_plan
with_plan_plan s l h = ap (λ (m : List Booking). listing s m) (with_plan-bookings s l h)

module _ (b : Book) (sized : Sized b) (seat : ℕ) where
  -- opening stores the settings, and no bookings; a count of 0 stores 8 and 3
  pub opened_seat : (cell case k long short : ℕ) → (open_answer b seat cell case k long short).refusal ≡ 0
      → seat_of (open_answer b seat cell case k long short).book seat ≡ open_seat cell case k long short
  unfolding open_answer
  opened_seat cell case k long short z = own_seat _ b seat _ z (omega (arith, (open_passed b seat cell case k long short z).seat_low, sized.seats))

  -- a booking accepted is in the plan, in its place, and nothing else changed
  pub booked_plan : (x : Request) → (book_answer b seat x).refusal ≡ 0
      → plan_of (seat_of (book_answer b seat x).book seat) ≡ listing (seat_of b seat) (insert (as_booking x) (bookings (seat_of b seat)))
  unfolding book_answer booked
  booked_plan x z =
      let p = (book_passed b seat x z).booking in
      let s = seat_of b seat in
      let n = plan_length s (sized.rows seat p.seat_low) in
      ap (λ (t : Seat). plan_of t) (own_seat _ b seat _ z (omega (arith, p.seat_low, sized.seats)))
      ∙ with_plan_plan s (insert (as_booking x) (bookings s)) (omega (arith, insert-length (as_booking x) (bookings s), n, p.few))

  -- cancel removes what was named, and nothing else
  pub cancelled_plan : (timeslot factor index : ℕ) → (cancel_answer b seat timeslot factor index).refusal ≡ 0
      → plan_of (seat_of (cancel_answer b seat timeslot factor index).book seat) ≡ listing (seat_of b seat) (without timeslot factor index (bookings (seat_of b seat)))
  unfolding cancel_answer cancelled
  cancelled_plan timeslot factor index z =
      let p = cancel_passed b seat timeslot factor index z in
      let s = seat_of b seat in
      let n = plan_length s (sized.rows seat p.seat_low) in
      ap (λ (t : Seat). plan_of t) (own_seat _ b seat _ z (omega (arith, p.seat_low, sized.seats)))
      ∙ with_plan_plan s (without timeslot factor index (bookings s)) (omega (arith, without_length timeslot factor index (bookings s), n))

  -- close leaves the seat closed: no settings, no bookings
  pub closed_seat : (close_answer b seat).refusal ≡ 0 → seat_of (close_answer b seat).book seat ≡ closed
  unfolding close_answer
  closed_seat z = own_seat _ b seat _ z (omega (arith, (seat_passed b seat z).seat_low, sized.seats))

  -- a list gives exactly the plan, in order, and its count is the number of bookings
  pub listed_plan : (list_answer b seat).refusal ≡ 0
      → (take (list_answer b seat).count (list_answer b seat).row ≡ bookings (seat_of b seat)) × (length (bookings (seat_of b seat)) ≡ (list_answer b seat).count)
  unfolding list_answer
  listed_plan z =
      let s = seat_of b seat in
      let m = first_of (seat_refusals b seat) in
      let c = after_answered m 0 (held s) z in
      let r = after_answered m (replicate 40 blank) s.row z in (
        ap (λ (k : ℕ). take k (after m (replicate 40 blank) s.row)) c ∙ ap (λ (l : List Booking). take (held s) l) r,
        plan_length s (sized.rows seat (seat_passed b seat z).seat_low) ∙ sym c,
      )

  -- "Room set free by cancel or close counts at once."
  pub room_freed : (close_answer b seat).refusal ≡ 0 → common (close_answer b seat).book + beyond (seat_of b seat) ≡ common b
  unfolding close_answer closed
  room_freed z =
      let low = (seat_passed b seat z).seat_low in
      let made = after_answered (first_of (seat_refusals b seat)) b (with_seat b seat closed) z in
      ap (λ (c : Book). common c + beyond (seat_of b seat)) made ∙ omega (arith, room_after b seat closed sized.seats low)

-- a count of 0 in opening
pub default_counts : (long_count 0 ≡ 8) × (short_count 0 ≡ 3)
unfolding long_count short_count
default_counts = (refl, refl)

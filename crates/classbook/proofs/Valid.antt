-- "A call on a book that meets them leaves one that does": for each of the five calls, from any book that meets its conditions. A teacher's guarantee; cited by docs/.
-- Assumes nothing.
use mathlib.Core.Path.{◌≡◌, refl, ap, ◌∙◌}
use mathlib.Core.Logic.{⊎_elim}
use mathlib.Core.Bool.{true}
use Prim.Native.Nat.{ℕ, ◌+◌, ◌≤◌, ◌<◌}
use native.Mathlib.Omega.{arith}
use lib.Dec.{eqb, leb}
use lib.ListN.{length, set, replicate}
use borrow.Author.Tests.{leb-true, leb-false, eqb-true, eqb-false, le-leb}
use Rattle.laws.specs.Lists.{every, total}
use Rattle.laws.proofs.Bools.{and_true}
use Rattle.laws.proofs.Places.{every_replicate}
use Rattle.laws.proofs.Lists.{both, by_cases, every_set, total_set}
use Rattle.refusals.specs.Refusals.{first_of, after}
use Rattle.refusals.proofs.First.{after_refused, after_answered}
use Rattle.seats.specs.declared.Seat.{Seat}
use Rattle.seats.specs.Seats.{closed, held, bookings, insert, without, with_plan, seat_ok}
use Rattle.plans.proofs.Plans.{plan_length, with_plan-held}
use Rattle.plans.proofs.Kept.{insert-length, seat_with_booking, closed_ok, opened_ok}
use Rattle.plans.proofs.Cancelled.{without_length, seat_without}
use Rattle.classbook.specs.declared.Book.{Book}
use Rattle.classbook.specs.declared.Request.{Request}
use Rattle.classbook.specs.Book.{empty_book, seat_of, with_seat, beyond, common, book_ok}
use Rattle.classbook.specs.Conditions.{room_used_up}
use Rattle.classbook.specs.Calls.{open_refusals, open_seat, open_answer, long_count, short_count, as_booking, book_refusals, booked, book_answer, cancel_refusals, cancelled, cancel_answer, seat_refusals, close_answer}
use Rattle.classbook.proofs.Passed.{seat_good, cancel_passed, seat_passed, open_passed, book_passed}
use Rattle.classbook.proofs.Made.{settings_passed}

-- the form's sizes, which the types of the code hold to: sixteen seats of forty places
pub record Sized (b : Book) : Type 0 where
  pub seats : length b.seats ≡ 16
  pub rows : (seat : ℕ) → seat ≤ 15 → length (seat_of b seat).row ≡ 40

-- "An empty book, with no seat open, meets the conditions below"
pub empty_ok : book_ok empty_book ≡ true
unfolding book_ok empty_book common total closed
empty_ok = both (every seat_ok (replicate 16 closed)) true (every_replicate seat_ok closed closed_ok 16) refl

-- an answer's book: the old one, or one that was shown to be good
answer_ok : (n : ℕ) (b made : Book) → book_ok b ≡ true → (n ≡ 0 → book_ok made ≡ true) → book_ok (after n b made) ≡ true
answer_ok n b made ok h =
    ⊎_elim
    (λ t. ap (λ (c : Book). book_ok c) (after_answered n b made (eqb-true n 0 t)) ∙ h (eqb-true n 0 t))
    (λ f. ap (λ (c : Book). book_ok c) (after_refused n b made (eqb-false n 0 f)) ∙ ok)
    (by_cases (eqb n 0))

-- a book with one seat exchanged
module _ (b : Book) (seat : ℕ) (s : Seat) (sixteen : length b.seats ≡ 16) (low : seat ≤ 15) where
  pub room_after : common (with_seat b seat s) + beyond (seat_of b seat) ≡ common b + beyond s
  unfolding common with_seat seat_of
  room_after = total_set beyond b.seats seat s closed (omega arith)

  with_seat_ok : book_ok b ≡ true → seat_ok s ≡ true → common (with_seat b seat s) ≤ 80 → book_ok (with_seat b seat s) ≡ true
  unfolding book_ok with_seat
  with_seat_ok ok good room =
      both (every seat_ok (set b.seats seat s)) (leb (common (with_seat b seat s)) 80)
      (every_set seat_ok b.seats seat s (and_true (every seat_ok b.seats) (leb (common b) 80) ok).0 good)
      (le-leb _ 80 room)

pub room_high : (b : Book) → book_ok b ≡ true → common b ≤ 80
unfolding book_ok
room_high b ok = leb-true (common b) 80 (and_true (every seat_ok b.seats) (leb (common b) 80) ok).1

module _ (b : Book) (sized : Sized b) (ok : book_ok b ≡ true) where
  -- a seat that comes to hold no more than it held
  fewer : (seat : ℕ) (s : Seat) → seat ≤ 15 → seat_ok s ≡ true → held s ≤ held (seat_of b seat) → book_ok (with_seat b seat s) ≡ true
  fewer seat s low good h = with_seat_ok b seat s sized.seats low ok good (omega (arith, room_after b seat s sized.seats low, room_high b ok))

  pub open_kept : (seat cell case k long short : ℕ) → book_ok (open_answer b seat cell case k long short).book ≡ true
  unfolding open_answer open_seat
  open_kept seat cell case k long short = answer_ok (first_of (open_refusals b seat cell case k long short)) b (with_seat b seat (open_seat cell case k long short)) ok made
    where
      made : first_of (open_refusals b seat cell case k long short) ≡ 0 → book_ok (with_seat b seat (open_seat cell case k long short)) ≡ true
      made z =
          fewer seat (open_seat cell case k long short) (open_passed b seat cell case k long short z).seat_low
          (opened_ok cell case k (long_count long) (short_count short) (settings_passed b seat cell case k long short z)) (omega arith)

  pub close_kept : (seat : ℕ) → book_ok (close_answer b seat).book ≡ true
  unfolding close_answer closed
  close_kept seat = answer_ok (first_of (seat_refusals b seat)) b (with_seat b seat closed) ok made
    where
      made : first_of (seat_refusals b seat) ≡ 0 → book_ok (with_seat b seat closed) ≡ true
      made z = fewer seat closed (seat_passed b seat z).seat_low closed_ok (omega arith)

  pub cancel_kept : (seat timeslot factor index : ℕ) → book_ok (cancel_answer b seat timeslot factor index).book ≡ true
  unfolding cancel_answer cancelled
  cancel_kept seat timeslot factor index = answer_ok (first_of (cancel_refusals b seat timeslot factor index)) b (cancelled b seat timeslot factor index) ok made
    where
      made : first_of (cancel_refusals b seat timeslot factor index) ≡ 0 → book_ok (cancelled b seat timeslot factor index) ≡ true
      made z =
          let p = cancel_passed b seat timeslot factor index z in
          let s = seat_of b seat in
          let good = seat_good b seat sized.seats ok p.seat_low in
          let n = plan_length s (sized.rows seat p.seat_low) in
          let shorter = without_length timeslot factor index (bookings s) in
          let few : length (without timeslot factor index (bookings s)) ≤ 40 = omega (arith, n, shorter) in
          fewer seat (with_plan s (without timeslot factor index (bookings s))) p.seat_low
          (seat_without s timeslot factor index good p.live)
          (omega (arith, with_plan-held s (without timeslot factor index (bookings s)) few, n, shorter))

  pub book_kept : (seat : ℕ) (x : Request) → book_ok (book_answer b seat x).book ≡ true
  unfolding book_answer booked room_used_up
  book_kept seat x = answer_ok (first_of (book_refusals b seat x)) b (booked b seat (as_booking x)) ok made
    where
      made : first_of (book_refusals b seat x) ≡ 0 → book_ok (booked b seat (as_booking x)) ≡ true
      made z =
          let q = book_passed b seat x z in
          let p = q.booking in
          let s = seat_of b seat in
          let y = as_booking x in
          let l = insert y (bookings s) in
          let good = seat_good b seat sized.seats ok p.seat_low in
          let wide = sized.rows seat p.seat_low in
          let n : length l ≡ held s + 1 = insert-length y (bookings s) ∙ ap (λ (k : ℕ). k + 1) (plan_length s wide) in
          let more : held (with_plan s l) ≡ held s + 1 = with_plan-held s l (omega (arith, n, p.few)) ∙ n in
          let new-seat = seat_with_booking s y good p.live wide p.few q.standing p.clear in
          let law = room_after b seat (with_plan s l) sized.seats p.seat_low in
          with_seat_ok b seat (with_plan s l) sized.seats p.seat_low ok new-seat
          (⊎_elim
          (λ t. let ten : 10 ≤ held s = leb-true 10 (held s) t in
          let left : common b ≡ 80 → ⊥ = eqb-false (common b) 80 (rw t at p.room) in
          omega (arith, law, more, room_high b ok, left))
          (λ f. let ten : held s < 10 = leb-false 10 (held s) f in omega (arith, law, more, room_high b ok))
          (by_cases (leb 10 (held s))))

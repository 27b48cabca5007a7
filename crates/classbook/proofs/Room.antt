-- Document 01, "Room": exactly when a booking that nothing else stands against is refused 19, refused 20, or accepted. Over the answer that the promise cites.
-- Assumes nothing.
use mathlib.Core.Path.{◌≡◌, refl, ◌∙◌}
use mathlib.Core.Bool.{Bool, true, false, and-false}
use mathlib.Core.List.{[], ◌∷◌}
use Prim.Native.Nat.{ℕ, ◌≤◌, ◌<◌}
use native.Mathlib.Omega.{arith}
use lib.Dec.{T, eqb}
use borrow.Author.Tests.{eq-eqb, ne_eqb, le-leb, lt-leb, le-ltb}
use Rattle.refusals.specs.Refusals.{first_of}
use Rattle.refusals.proofs.First.{numbered, append_passes}
use Rattle.tables.specs.Tables.{form_refusals}
use Rattle.seats.specs.Conditions.{not_permitted, off_beacon, clashes_with}
use Rattle.seats.specs.Seats.{held, bookings}
use Rattle.classbook.specs.declared.Book.{Book}
use Rattle.classbook.specs.declared.Request.{Request}
use Rattle.classbook.specs.Book.{seat_of, common, book_ok}
use Rattle.classbook.specs.Conditions.{bad_book, bad_seat, not_open, seat_full, room_used_up}
use Rattle.classbook.specs.Calls.{as_booking, request_refusals, booking_refusals, book_refusals, book_answer}

-- a request that nothing stands against but perhaps room: good numbers, a good book, an open seat, none of 16 to 18
pub record Bookable (b : Book) (seat : ℕ) (x : Request) : Type 0 where
  pub form : first_of (request_refusals x) ≡ 0
  pub valid : book_ok b ≡ true
  pub seat_low : seat ≤ 15
  pub live : (seat_of b seat).live ≡ true
  pub permits : not_permitted (seat_of b seat).long (seat_of b seat).short (as_booking x) ≡ false
  pub clear : clashes_with (bookings (seat_of b seat)) (as_booking x) ≡ false
  pub rules : off_beacon (seat_of b seat).case (seat_of b seat).k (as_booking x) ≡ false

module _ (b : Book) (seat : ℕ) (x : Request) (fit : Bookable b seat x) where
  request_numbered : T (numbered (request_refusals x))
  unfolding request_refusals form_refusals
  request_numbered = tt

  not_forty : held (seat_of b seat) < 40 → eqb (held (seat_of b seat)) 40 ≡ false
  not_forty few = ne_eqb (held (seat_of b seat)) 40 apart
    where
      apart : held (seat_of b seat) ≡ 40 → ⊥
      apart z = omega arith

  -- what is left of the table
  left : (full used : Bool) → seat_full (seat_of b seat) ≡ full → room_used_up b (seat_of b seat) ≡ used → (n : ℕ)
      → first_of ((19, full) ∷ (20, used) ∷ []) ≡ n → (book_answer b seat x).refusal ≡ n
  unfolding book_answer book_refusals booking_refusals bad_book bad_seat not_open first_of
  left full used ef eu n e =
      append_passes (request_refusals x) (booking_refusals b seat (as_booking x)) request_numbered fit.form
      ∙ simp (fit.valid, le-ltb 15 seat fit.seat_low, fit.live, fit.permits, fit.clear, fit.rules, ef, eu) e

  -- "a seat with n bookings is refused 19 if n is 40"
  pub refused_19 : held (seat_of b seat) ≡ 40 → (book_answer b seat x).refusal ≡ 19
  unfolding seat_full first_of
  refused_19 h = left true (room_used_up b (seat_of b seat)) (eq-eqb _ 40 h) refl 19 refl

  -- "20 if n is at least 10 and the sum over all seats of what each holds beyond 10 is 80"
  pub refused_20 : 10 ≤ held (seat_of b seat) → held (seat_of b seat) < 40 → common b ≡ 80 → (book_answer b seat x).refusal ≡ 20
  unfolding seat_full room_used_up first_of
  refused_20 ten few used = left false true (not_forty few) (simp (le-leb 10 _ ten, eq-eqb (common b) 80 used)) 20 refl

  -- and else it is accepted: with fewer than 10 whatever the others hold, and with fewer than 40 while common room is left
  pub accepted_tens : held (seat_of b seat) < 10 → (book_answer b seat x).refusal ≡ 0
  unfolding seat_full room_used_up first_of
  accepted_tens few = left false false (not_forty (omega arith)) (simp (lt-leb 10 _ few)) 0 refl

  pub accepted_room : held (seat_of b seat) < 40 → (common b ≡ 80 → ⊥) → (book_answer b seat x).refusal ≡ 0
  unfolding seat_full room_used_up first_of
  accepted_room few room = left false false (not_forty few) (simp (ne_eqb (common b) 80 room, and-false)) 0 refl

-- Document 02, C-17: "A count of 0 in opening now means 8 and 3", each by itself; and "16 now meets
-- such a booking on a default seat", and none on a seat with 16 and 6. No function's proof cites it: it
-- is for the reader. Assumes nothing.
use mathlib.Core.Path.{◌≡◌, refl, sym, ap, ◌∙◌}
use mathlib.Core.Bool.{Bool, true, false, not}
use mathlib.Core.List.{[], ◌∷◌}
use mathlib.Core.Logic.{⊎_elim}
use Prim.Native.Nat.{ℕ, ◌≤◌}
use native.Mathlib.Omega.{arith}
use lib.Dec.{eqb, leb, ltb}
use borrow.Author.Tests.{le-leb, leb-true, leb-false, le-ltb, lt-ltb}
use Rattle.laws.proofs.Bools.{or_false}
use Rattle.laws.proofs.Cases.{by_cases}
use Rattle.refusals.specs.Refusals.{first_of}
use Rattle.refusals.proofs.First.{first_none, first_holds, first_passes, append_passes}
use Rattle.conditions.specs.Conditions.{bad_type, bad_count, bad_user, bad_booked_user}
use Rattle.conditions.proofs.Counts.{one_to_count}
use Rattle.tables.specs.Tables.{form_refusals}
use Rattle.bookings.specs.declared.Booking.{Booking}
use Rattle.bookings.specs.Bookings.{form_of}
use Rattle.seats.specs.declared.Seat.{Seat}
use Rattle.seats.specs.Conditions.{count_for, not_permitted, clashes_with, off_beacon}
use Rattle.seats.specs.Seats.{bookings}
use Rattle.classbook.specs.declared.Book.{Book}
use Rattle.classbook.specs.declared.Request.{Request}
use Rattle.classbook.specs.Book.{seat_of, book_ok}
use Rattle.classbook.specs.Conditions.{bad_book, bad_seat, not_open, seat_full, room_used_up}
use Rattle.classbook.specs.Calls.{long_count, short_count, open_refusals, open_seat, open_answer}
use Rattle.classbook.specs.Calls.{as_booking, request_refusals, booking_refusals, book_refusals, book_answer}
use Rattle.classbook.proofs.Passed.{open_passed}
use Rattle.classbook.proofs.Made.{form_kept}
use Rattle.classbook.proofs.Meaning.{opened_seat}
use Rattle.classbook.proofs.Valid.{Sized, open_kept}
use Rattle.facts.specs.Default.{last_user}
use Rattle.facts.proofs.OldCounts.{user_low}

-- ---- "A count of 0 in opening now means 8 and 3", whatever the other count is

pub long_default : (b : Book) (seat cell case k short : ℕ)
    → open_answer b seat cell case k 0 short ≡ open_answer b seat cell case k 8 short
unfolding open_answer open_refusals open_seat long_count
long_default b seat cell case k short = refl

pub short_default : (b : Book) (seat cell case k long : ℕ)
    → open_answer b seat cell case k long 0 ≡ open_answer b seat cell case k long 3
unfolding open_answer open_refusals open_seat short_count
short_default b seat cell case k long = refl

-- ---- "16 now meets such a booking on a default seat"

above_not : (n m : ℕ) → not (leb n m) ≡ ltb m n
above_not n m =
    ⊎_elim
    (λ (t : leb n m ≡ true). simp (t, le-ltb m n (leb-true n m t)))
    (λ (f : leb n m ≡ false). simp (f, lt-ltb m n (leb-false n m f)))
    (by_cases (leb n m))

-- a seat whose counts are such bars those above the one that the burst type goes by
module _ (long short : ℕ) (many : bad_count 1 long ≡ false) (few : bad_count 2 short ≡ false)
    (long-4 : long ≡ 4 → ⊥) (short-4 : short ≡ 4 → ⊥) where
  counted : (x : Booking) → form_of x ≡ 0
      → not_permitted long short x ≡ ltb (count_for long short x.burst) x.user
  unfolding not_permitted bad_user count_for bad_count
  counted x form = ⊎_elim two other (by_cases (eqb x.burst 2))
    where
      above : (count : ℕ) → bad_count x.burst count ≡ false → (count ≡ 4 → ⊥)
          → bad_user x.burst count x.user ≡ ltb count x.user
      above count good four =
          rw (one_to_count x.user x.burst count good four, le-leb 1 x.user (user_low x form))
          (above_not x.user count)

      two : eqb x.burst 2 ≡ true → not_permitted long short x ≡ ltb (count_for long short x.burst) x.user
      two t = rw t (above short (rw t few) short-4)

      other : eqb x.burst 2 ≡ false → not_permitted long short x ≡ ltb (count_for long short x.burst) x.user
      other f = rw f (above long (rw f many) long-4)

-- a default seat bars exactly the users above 8, or above 3 on short codes
pub default_users : (x : Booking) → form_of x ≡ 0
    → not_permitted (long_count 0) (short_count 0) x ≡ ltb (last_user x.burst) x.user
unfolding long_count short_count last_user count_for bad_count
default_users x form = counted 8 3 refl refl (λ e. omega arith) (λ e. omega arith) x form

-- and one with 16 and 6 none
pub all_users : (x : Booking) → form_of x ≡ 0 → not_permitted 16 6 x ≡ false
unfolding count_for bad_count form_of form_refusals bad_booked_user
all_users x form =
    let two = first_none 1 (bad_type x.burst) _ form in
    let four = first_none 3 (bad_booked_user x.burst x.user) _ two.1 in
    counted 16 6 refl refl (λ e. omega arith) (λ e. omega arith) x form
    ∙ (or_false (ltb x.user 1) _ four.0).1

-- 16 is given by no later row
later_rows : (c d e f : Bool) → first_of ((17, c) ∷ (18, d) ∷ (19, e) ∷ (20, f) ∷ []) ≡ 16 → ⊥
unfolding first_of
later_rows true d e f z = omega arith
later_rows false true e f z = omega arith
later_rows false false true f z = omega arith
later_rows false false false true z = omega arith
later_rows false false false false z = omega arith

-- a booking whose own numbers pass, on an open seat of a book that meets its conditions
module _ (b : Book) (seat : ℕ) (x : Request) (ok : book_ok b ≡ true) (low : seat ≤ 15)
    (live : (seat_of b seat).live ≡ true) (form : first_of (request_refusals x) ≡ 0) where
  -- 16 to 20 decide
  own_table : (book_answer b seat x).refusal
      ≡ first_of
      ((16, not_permitted (seat_of b seat).long (seat_of b seat).short (as_booking x)) ∷
      (17, clashes_with (bookings (seat_of b seat)) (as_booking x)) ∷
      (18, off_beacon (seat_of b seat).case (seat_of b seat).k (as_booking x)) ∷
      (19, seat_full (seat_of b seat)) ∷
      (20, room_used_up b (seat_of b seat)) ∷ [])
  unfolding book_answer book_refusals booking_refusals request_refusals form_refusals bad_book bad_seat not_open first_of
  own_table =
      append_passes (request_refusals x) (booking_refusals b seat (as_booking x)) tt form
      ∙ rw (ok, live, le-ltb 15 seat low) refl

  -- so it is refused 16 where the seat's counts bar the user, and not otherwise
  barred : not_permitted (seat_of b seat).long (seat_of b seat).short (as_booking x) ≡ true → (book_answer b seat x).refusal ≡ 16
  barred e = own_table ∙ first_holds 16 _ _ e

  let_by : not_permitted (seat_of b seat).long (seat_of b seat).short (as_booking x) ≡ false → (book_answer b seat x).refusal ≡ 16 → ⊥
  let_by e z = later_rows _ _ _ _ (sym (own_table ∙ first_passes 16 _ _ e) ∙ z)

  formed : form_of (as_booking x) ≡ 0
  formed = form_kept x (as_booking x) form refl

  -- on a default seat 16 meets the users above 8, or above 3 on short codes, and no other
  module _ (long : (seat_of b seat).long ≡ long_count 0) (short : (seat_of b seat).short ≡ short_count 0) where
    bars : not_permitted (seat_of b seat).long (seat_of b seat).short (as_booking x) ≡ ltb (last_user x.burst) x.user
    unfolding as_booking
    bars = rw (long, short) (default_users (as_booking x) formed)

    pub default_meets : ltb (last_user x.burst) x.user ≡ true → (book_answer b seat x).refusal ≡ 16
    default_meets e = barred (bars ∙ e)

    pub default_lets : ltb (last_user x.burst) x.user ≡ false → (book_answer b seat x).refusal ≡ 16 → ⊥
    default_lets e = let_by (bars ∙ e)

  -- on a seat with 16 and 6 it meets nobody
  pub full_lets : (seat_of b seat).long ≡ 16 → (seat_of b seat).short ≡ 6 → (book_answer b seat x).refusal ≡ 16 → ⊥
  full_lets long short = let_by (rw (long, short) (all_users (as_booking x) formed))

-- a seat that has just been opened with 0 and 0 is such a seat
pub opened_default : (b : Book) → Sized b → book_ok b ≡ true → (seat cell case k : ℕ) (x : Request)
    → (open_answer b seat cell case k 0 0).refusal ≡ 0 → first_of (request_refusals x) ≡ 0
    → ltb (last_user x.burst) x.user ≡ true
    → (book_answer (open_answer b seat cell case k 0 0).book seat x).refusal ≡ 16
unfolding open_seat open_answer
opened_default b sized ok seat cell case k x z form above =
    let made = opened_seat b sized seat cell case k 0 0 z in
    default_meets (open_answer b seat cell case k 0 0).book seat x (open_kept b sized ok seat cell case k 0 0)
    (open_passed b seat cell case k 0 0 z).seat_low (ap (λ (s : Seat). s.live) made) form
    (ap (λ (s : Seat). s.long) made) (ap (λ (s : Seat). s.short) made) above

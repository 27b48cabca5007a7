-- What a call knows that was not refused. Cited by the proofs of the calls, and by Made, Valid and Meaning.
-- Assumes nothing.
use mathlib.Core.Path.{◌≡◌, sym, ◌∙◌}
use mathlib.Core.Logic.{⊎_elim}
use mathlib.Core.Bool.{true, false}
use mathlib.Core.List.{[], ◌∷◌}
use Prim.Native.Nat.{ℕ, ◌≤◌, ◌<◌}
use native.Mathlib.Nat.{le_of_suc-le-suc}
use native.Mathlib.Omega.{arith}
use lib.Dec.{T, leb}
use lib.ListN.{length, get_or-eq_default}
use borrow.Author.Tests.{eq-eqb, ltb-false, eqb-false, not-false}
use Rattle.laws.specs.Lists.{every}
use Rattle.laws.proofs.Bools.{and_true}
use Rattle.laws.proofs.Cases.{below_or_not}
use Rattle.laws.proofs.Lists.{every_at}
use Rattle.refusals.specs.Refusals.{Refusals, first_of}
use Rattle.refusals.proofs.First.{numbered, first_none, append_passes, append_front}
use Rattle.bookings.specs.declared.Booking.{Booking}
use Rattle.conditions.specs.Conditions.{bad_timeslot, bad_code}
use Rattle.tables.specs.Tables.{form_refusals, settings_refusals}
use Rattle.bookings.specs.Bookings.{form_of}
use Rattle.seats.specs.Conditions.{not_permitted, off_beacon, clashes_with}
use Rattle.seats.specs.Seats.{closed, held, bookings, stands, stands_in, seat_ok}
use Rattle.plans.proofs.Kept.{closed_ok}
use Rattle.classbook.specs.declared.Book.{Book}
use Rattle.classbook.specs.declared.Request.{Request}
use Rattle.classbook.specs.Book.{seat_of, common, book_ok}
use Rattle.classbook.specs.Conditions.{bad_book, bad_seat, not_open, is_open, seat_full, room_used_up, none_named}
use Rattle.classbook.specs.Calls.{as_booking, request_refusals, booking_refusals, book_refusals, cancel_refusals, seat_refusals, open_refusals, long_count, short_count}

-- a seat of a book that meets its conditions meets its own
pub seat_good : (b : Book) (seat : ℕ) → length b.seats ≡ 16 → book_ok b ≡ true → seat ≤ 15 → seat_ok (seat_of b seat) ≡ true
unfolding book_ok seat_of
seat_good b seat l ok h = every_at seat_ok b.seats seat closed (omega arith) (and_true (every seat_ok b.seats) (leb (common b) 80) ok).0

-- and so does a closed one, which is what there is above 15
pub any_seat_good : (b : Book) (seat : ℕ) → length b.seats ≡ 16 → book_ok b ≡ true → seat_ok (seat_of b seat) ≡ true
unfolding seat_of
any_seat_good b seat l ok =
    ⊎_elim (λ h. seat_good b seat l ok (le_of_suc-le-suc h)) (λ h. rw (get_or-eq_default b.seats closed {n = seat} (omega arith)) closed_ok) (below_or_not seat 16)

-- however many seats there are
pub named_seat_good : (b : Book) (seat : ℕ) → book_ok b ≡ true → seat_ok (seat_of b seat) ≡ true
unfolding book_ok seat_of
named_seat_good b seat ok =
    ⊎_elim (λ h. every_at seat_ok b.seats seat closed h (and_true (every seat_ok b.seats) (leb (common b) 80) ok).0)
    (λ h. rw (get_or-eq_default b.seats closed {n = seat} (omega arith)) closed_ok) (below_or_not seat (length b.seats))

-- ---- a booking
pub record BookingPassed (b : Book) (seat : ℕ) (x : Booking) : Type 0 where
  pub valid : book_ok b ≡ true
  pub seat_low : seat ≤ 15
  pub live : (seat_of b seat).live ≡ true
  pub permits : not_permitted (seat_of b seat).long (seat_of b seat).short x ≡ false
  pub clear : clashes_with (bookings (seat_of b seat)) x ≡ false
  pub rules : off_beacon (seat_of b seat).case (seat_of b seat).k x ≡ false
  pub few : held (seat_of b seat) < 40
  pub room : room_used_up b (seat_of b seat) ≡ false

pub booking_passed : (b : Book) (seat : ℕ) (x : Booking) → first_of (booking_refusals b seat x) ≡ 0 → BookingPassed b seat x
unfolding booking_refusals bad_book bad_seat not_open seat_full
booking_passed b seat x e =
    let s = seat_of b seat in
    let r12 = first_none 11 (bad_book b) _ e in
    let r13 = first_none 12 (bad_seat seat) _ r12.1 in
    let r14 = first_none 13 (not_open b seat) _ r13.1 in
    let r16 = first_none 15 (not_permitted s.long s.short x) _ r14.1 in
    let r17 = first_none 16 (clashes_with (bookings s) x) _ r16.1 in
    let r18 = first_none 17 (off_beacon s.case s.k x) _ r17.1 in
    let r19 = first_none 18 (seat_full s) _ r18.1 in
    let r20 = first_none 19 (room_used_up b s) [] r19.1 in
    let no-forty = eqb-false (held s) 40 r19.0 in
    record {
      valid = not-false (book_ok b) r12.0;
      seat_low = ltb-false 15 seat r13.0;
      live = not-false s.live r14.0;
      permits = r16.0;
      clear = r17.0;
      rules = r18.0;
      few = below_forty (held s) (omega arith) no-forty;
      room = r20.0;
    }
  where
    below_forty : (n : ℕ) → n ≤ 40 → (n ≡ 40 → ⊥) → n < 40
    below_forty n l h = omega arith

-- ---- a cancelling
pub record CancelPassed (b : Book) (seat timeslot factor index : ℕ) : Type 0 where
  pub valid : book_ok b ≡ true
  pub seat_low : seat ≤ 15
  pub live : (seat_of b seat).live ≡ true
  pub there : none_named (seat_of b seat) timeslot factor index ≡ false

pub cancel_passed : (b : Book) (seat timeslot factor index : ℕ) → first_of (cancel_refusals b seat timeslot factor index) ≡ 0 → CancelPassed b seat timeslot factor index
unfolding cancel_refusals bad_book bad_seat not_open
cancel_passed b seat timeslot factor index e =
    let r5 = first_none 4 (bad_timeslot timeslot) _ e in
    let r6 = first_none 5 (bad_code factor index) _ r5.1 in
    let r12 = first_none 11 (bad_book b) _ r6.1 in
    let r13 = first_none 12 (bad_seat seat) _ r12.1 in
    let r14 = first_none 13 (not_open b seat) _ r13.1 in
    let r21 = first_none 20 (none_named (seat_of b seat) timeslot factor index) [] r14.1 in
    record {
      valid = not-false (book_ok b) r12.0;
      seat_low = ltb-false 15 seat r13.0;
      live = not-false (seat_of b seat).live r14.0;
      there = r21.0;
    }

-- ---- a closing or a listing
pub record SeatPassed (b : Book) (seat : ℕ) : Type 0 where
  pub valid : book_ok b ≡ true
  pub seat_low : seat ≤ 15
  pub live : (seat_of b seat).live ≡ true

pub seat_passed : (b : Book) (seat : ℕ) → first_of (seat_refusals b seat) ≡ 0 → SeatPassed b seat
unfolding seat_refusals bad_book bad_seat not_open
seat_passed b seat e =
    let r12 = first_none 11 (bad_book b) _ e in
    let r13 = first_none 12 (bad_seat seat) _ r12.1 in
    let r14 = first_none 13 (not_open b seat) [] r13.1 in
    record { valid = not-false (book_ok b) r12.0; seat_low = ltb-false 15 seat r13.0; live = not-false (seat_of b seat).live r14.0 }

-- ---- an opening
settings_numbered : (cell case k long short : ℕ) → T (numbered (settings_refusals cell case k long short))
unfolding settings_refusals
settings_numbered cell case k long short = tt

pub record OpenPassed (b : Book) (seat : ℕ) : Type 0 where
  pub valid : book_ok b ≡ true
  pub seat_low : seat ≤ 15
  pub shut : (seat_of b seat).live ≡ false

pub open_passed : (b : Book) (seat cell case k long short : ℕ) → first_of (open_refusals b seat cell case k long short) ≡ 0 → OpenPassed b seat
unfolding open_refusals bad_book bad_seat is_open
open_passed b seat cell case k long short e =
    let t = settings_refusals cell case k (long_count long) (short_count short) in
    let u : Refusals = (12, bad_book b) ∷ (13, bad_seat seat) ∷ (15, is_open b seat) ∷ [] in
    let numbers = settings_numbered cell case k (long_count long) (short_count short) in
    let rest = sym (append_passes t u numbers (append_front t u numbers e)) ∙ e in
    let r12 = first_none 11 (bad_book b) _ rest in
    let r13 = first_none 12 (bad_seat seat) _ r12.1 in
    let r15 = first_none 14 (is_open b seat) [] r13.1 in
    record { valid = not-false (book_ok b) r12.0; seat_low = ltb-false 15 seat r13.0; shut = r15.0 }

-- ---- a booking as it was asked for: its own numbers too
request_numbered : (x : Request) → T (numbered (request_refusals x))
unfolding request_refusals form_refusals
request_numbered x = tt

pub record BookPassed (b : Book) (seat : ℕ) (x : Request) : Type 0 where
  pub booking : BookingPassed b seat (as_booking x)
  pub standing : stands_in (seat_of b seat) (as_booking x) ≡ true

pub book_passed : (b : Book) (seat : ℕ) (x : Request) → first_of (book_refusals b seat x) ≡ 0 → BookPassed b seat x
unfolding book_refusals request_refusals as_booking stands form_of
book_passed b seat x e =
    let numbers = request_numbered x in
    let form = append_front (request_refusals x) (booking_refusals b seat (as_booking x)) numbers e in
    let rest = sym (append_passes (request_refusals x) (booking_refusals b seat (as_booking x)) numbers form) ∙ e in
    let p = booking_passed b seat (as_booking x) rest in
    record { booking = p; standing = simp (eq-eqb _ 0 form, p.permits, p.rules) }

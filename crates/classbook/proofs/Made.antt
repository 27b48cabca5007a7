-- What a call that was not refused may rely on, and the book that it makes, over plain values. Cited by the proofs of the calls, and by Valid.
-- Assumes nothing.
use mathlib.Core.Path.{◌≡◌, sym, ap, ◌∙◌}
use mathlib.Core.Bool.{Bool, true, false, not}
use mathlib.Core.List.{List, [], ◌∷◌}
use Prim.Native.Nat.{ℕ, ◌<◌}
use native.Mathlib.Omega.{arith}
use lib.Dec.{T}
use lib.ListN.{length, length-take}
use borrow.Author.Tests.{leb-false}
use Rattle.std.specs.Prelude.{Option, Some, is_none}
use Rattle.std.specs.Option.{unwrap_or}
use Rattle.laws.specs.Lists.{every, remove_at}
use Rattle.refusals.specs.Refusals.{first_of}
use Rattle.refusals.proofs.First.{numbered, append_refused, append_passes, append_front}
use Rattle.bookings.specs.declared.Booking.{Booking}
use Rattle.bookings.specs.Bookings.{form_of}
use Rattle.seats.specs.declared.Seat.{Seat}
use Rattle.tables.specs.Tables.{form_refusals, settings_refusals}
use Rattle.seats.specs.Seats.{held, bookings, insert, names, without, with_plan, seat_ok}
use Rattle.plans.specs.Inside.{place_named}
use Rattle.plans.proofs.Named.{placed_or_none}
use Rattle.plans.proofs.Cancelled.{removed_plan}
use Rattle.classbook.specs.declared.Book.{Book}
use Rattle.classbook.specs.declared.Request.{Request}
use Rattle.classbook.specs.Book.{seat_of, with_seat, book_ok}
use Rattle.classbook.specs.Conditions.{bad_book, bad_seat, is_open, none_named}
use Rattle.classbook.specs.Calls.{long_count, short_count, open_refusals, with_book, as_booking, request_refusals, booking_refusals, book_refusals, booked, book_answer, cancel_refusals, cancelled}
use Rattle.classbook.specs.Inside.{booking_answer}
use Rattle.classbook.proofs.Passed.{seat_good, any_seat_good, booking_passed, cancel_passed}

-- ---- open: the settings passed
settings_numbered : (cell case k long short : ℕ) → T (numbered (settings_refusals cell case k long short))
unfolding settings_refusals
settings_numbered cell case k long short = tt

pub settings_passed : (b : Book) (seat cell case k long short : ℕ) → first_of (open_refusals b seat cell case k long short) ≡ 0
    → first_of (settings_refusals cell case k (long_count long) (short_count short)) ≡ 0
unfolding open_refusals
settings_passed b seat cell case k long short e =
    append_front (settings_refusals cell case k (long_count long) (short_count short)) ((12, bad_book b) ∷ (13, bad_seat seat) ∷ (15, is_open b seat) ∷ [])
    (settings_numbered cell case k (long_count long) (short_count short)) e

-- ---- book: the request's own refusals come first, then the booking's
request_numbered : (x : Request) → T (numbered (request_refusals x))
unfolding request_refusals form_refusals
request_numbered x = tt

pub book_early : (b : Book) (seat : ℕ) (x : Request) (n : ℕ) → n ≡ first_of (request_refusals x) → (n ≡ 0 → ⊥) → n ≡ first_of (book_refusals b seat x)
unfolding book_refusals
book_early b seat x n e h = e ∙ sym (append_refused (request_refusals x) (booking_refusals b seat (as_booking x)) (λ z. h (e ∙ z)))

pub book_late : (b : Book) (seat : ℕ) (x : Request) → first_of (request_refusals x) ≡ 0 → booking_answer b seat (as_booking x) ≡ book_answer b seat x
unfolding book_answer booking_answer book_refusals
book_late b seat x z =
    ap (λ (n : ℕ). with_book n b (booked b seat (as_booking x)))
    (sym (append_passes (request_refusals x) (booking_refusals b seat (as_booking x)) (request_numbered x) z))

-- ---- book and cancel: what was found of the seat
pub one_named : (s : Seat) (timeslot factor index : ℕ) (place : Option ℕ) (l : List Booking) → l ≡ bookings s
    → is_none place ≡ every (λ y. not (names timeslot factor index y)) l → is_none place ≡ none_named s timeslot factor index
unfolding none_named
one_named s timeslot factor index place l el e = e ∙ ap (every (λ y. not (names timeslot factor index y))) el

pub place_found : (s : Seat) (timeslot factor index p : ℕ) (place : Option ℕ) (l : List Booking) → l ≡ bookings s → place ≡ Some p
    → unwrap_or place (length l) ≡ place_named timeslot factor index l → p ≡ place_named timeslot factor index (bookings s)
place_found s timeslot factor index p place l el ep e = sym (ap (λ (o : Option ℕ). unwrap_or o (length l)) ep) ∙ e ∙ ap (place_named timeslot factor index) el

-- the form of a request that has passed is that of the booking
pub form_kept : (x : Request) (y : Booking) → first_of (request_refusals x) ≡ 0 → y ≡ as_booking x → form_of y ≡ 0
unfolding request_refusals as_booking form_of
form_kept x y z e = rw e z

module _ (b : Book) (seat : ℕ) (s : Seat) (es : s ≡ seat_of b seat) where
  pub found_good : (ok : Bool) → length b.seats ≡ 16 → ok ≡ book_ok b → ok ≡ true → seat_ok s ≡ true
  found_good ok sixteen eo t = ap (λ (t : Seat). seat_ok t) es ∙ any_seat_good b seat sixteen (sym eo ∙ t)

  pub booking_ready : (x : Booking) → length b.seats ≡ 16 → first_of (booking_refusals b seat x) ≡ 0 → (seat_ok s ≡ true) × (held s < 40)
  booking_ready x sixteen e =
      let p = booking_passed b seat x e in
      (ap (λ (t : Seat). seat_ok t) es ∙ seat_good b seat sixteen p.valid p.seat_low, omega (arith, p.few, ap (λ (t : Seat). held t) es))

  pub booked_made : (x : Booking) → with_seat b seat (with_plan s (insert x (bookings s))) ≡ booked b seat x
  unfolding booked
  booked_made x = ap (λ (t : Seat). with_seat b seat (with_plan t (insert x (bookings t)))) es

  -- ---- cancel, where the place p was found
  module _ (timeslot factor index p : ℕ) (ep : p ≡ place_named timeslot factor index (bookings s)) (sixteen : length b.seats ≡ 16)
      (e : first_of (cancel_refusals b seat timeslot factor index) ≡ 0) where
    good : seat_ok s ≡ true
    good =
        let q = cancel_passed b seat timeslot factor index e in
        ap (λ (t : Seat). seat_ok t) es ∙ seat_good b seat sixteen q.valid q.seat_low

    there : none_named s timeslot factor index ≡ false
    there = ap (λ (t : Seat). none_named t timeslot factor index) es ∙ (cancel_passed b seat timeslot factor index e).there

    pub cancel_ready : (seat_ok s ≡ true) × (p < held s)
    unfolding none_named
    cancel_ready =
        let inside = leb-false (length (bookings s)) (place_named timeslot factor index (bookings s)) (placed_or_none timeslot factor index (bookings s) ∙ there) in
        (good, omega (arith, inside, ep, length-take (held s) s.row))

    pub cancelled_made : with_seat b seat (with_plan s (remove_at p (bookings s))) ≡ cancelled b seat timeslot factor index
    unfolding cancelled none_named
    cancelled_made =
        ap (λ (k : ℕ). with_seat b seat (with_plan s (remove_at k (bookings s)))) ep
        ∙ ap (λ (t : Seat). with_seat b seat t) (removed_plan s timeslot factor index good there)
        ∙ ap (λ (t : Seat). with_seat b seat (with_plan t (without timeslot factor index (bookings t)))) es

-- Document 01, "Room set free by cancel or close counts at once": what the two leave of a seat's
-- bookings and of the common room, and which bookings, refused for room till then, are accepted
-- at once. No function's proof cites it: it is for the reader. Assumes nothing.
use mathlib.Core.Path.{◌≡◌, sym, ap, ◌∙◌}
use mathlib.Core.Logic.{⊎_elim}
use mathlib.Core.Bool.{Bool, true, false, not, and-false}
use mathlib.Core.List.{List}
use Prim.Native.Nat.{ℕ, ◌+◌, ◌-◌, ◌≤◌, ◌<◌}
use native.Mathlib.Omega.{arith}
use lib.ListN.{length}
use borrow.Author.Tests.{ne_eqb, leb-false, not-false}
use Rattle.laws.specs.Lists.{every}
use Rattle.laws.proofs.Cases.{below_or_not}
use Rattle.refusals.specs.Refusals.{first_of}
use Rattle.refusals.proofs.First.{after_answered}
use Rattle.bookings.specs.declared.Booking.{Booking}
use Rattle.bookings.specs.Bookings.{clash}
use Rattle.seats.specs.declared.Seat.{Seat}
use Rattle.seats.specs.Conditions.{not_permitted, clashes_with, off_beacon}
use Rattle.seats.specs.Seats.{closed, held, bookings, without, with_plan}
use Rattle.plans.specs.Inside.{place_named}
use Rattle.plans.proofs.Named.{placed_or_none}
use Rattle.seats.proofs.Sound.{sound}
use Rattle.plans.proofs.Plans.{plan_length, with_plan-held, with_plan-bookings}
use Rattle.plans.proofs.Cancelled.{cancelled_length, without_every}
use Rattle.classbook.specs.declared.Book.{Book}
use Rattle.classbook.specs.declared.Request.{Request}
use Rattle.classbook.specs.Book.{seat_of, with_seat, beyond, common, book_ok}
use Rattle.classbook.specs.Conditions.{seat_full, room_used_up, none_named}
use Rattle.classbook.specs.Calls.{as_booking, request_refusals, book_answer}
use Rattle.classbook.specs.Calls.{cancelled, cancel_answer, close_answer}
use Rattle.classbook.proofs.Passed.{seat_good, CancelPassed, cancel_passed, seat_passed}
use Rattle.classbook.proofs.Valid.{Sized, room_after, room_high, cancel_kept, close_kept}
use Rattle.classbook.proofs.Meaning.{own_seat, cancel_apart, close_apart, closed_seat, room_freed}
use Rattle.classbook.proofs.Room.{Bookable, refused_19, accepted_tens, accepted_room}

-- ---- nothing but perhaps room stands against a request that the seat as it is then lets in
bookable : (c : Book) (seat : ℕ) (x : Request) (t : Seat) → seat_of c seat ≡ t → book_ok c ≡ true
    → seat ≤ 15 → first_of (request_refusals x) ≡ 0 → t.live ≡ true
    → not_permitted t.long t.short (as_booking x) ≡ false
    → clashes_with (bookings t) (as_booking x) ≡ false
    → off_beacon t.case t.k (as_booking x) ≡ false → Bookable c seat x
bookable c seat x t same valid low form live permits clear rules =
    let y = as_booking x in
    record {
      form = form;
      valid = valid;
      seat_low = low;
      live = ap (λ (u : Seat). u.live) same ∙ live;
      permits = ap (λ (u : Seat). not_permitted u.long u.short y) same ∙ permits;
      clear = ap (λ (u : Seat). clashes_with (bookings u) y) same ∙ clear;
      rules = ap (λ (u : Seat). off_beacon u.case u.k y) same ∙ rules;
    }

-- ---- a book with common room left
module _ (c : Book) (left : common c < 80) where
  not_used : common c ≡ 80 → ⊥
  not_used e = omega (arith, e, left)

  room_left : (s : Seat) → room_used_up c s ≡ false
  unfolding room_used_up
  room_left s = simp (ne_eqb (common c) 80 not_used, and-false)

  -- it takes what b refused 20 and nothing else stands against, where the seat is the same
  taken_then : (b : Book) (other : ℕ) (x : Request) → book_ok c ≡ true
      → seat_of c other ≡ seat_of b other → Bookable b other x
      → (book_answer b other x).refusal ≡ 20 → (book_answer c other x).refusal ≡ 0
  taken_then b other x valid same fit e =
      accepted_room c other x
      (bookable c other x (seat_of b other) same valid fit.seat_low fit.form fit.live
      fit.permits fit.clear fit.rules)
      (omega (arith, ap (λ (t : Seat). held t) same, not_full)) not_used
    where
      not_full : held (seat_of b other) ≡ 40 → ⊥
      not_full h = omega (arith, sym (refused_19 b other x fit h) ∙ e)

-- ---- "Room set free by cancel .. counts at once"
module _ (b : Book) (sized : Sized b) (seat timeslot factor index : ℕ)
    (accepted : (cancel_answer b seat timeslot factor index).refusal ≡ 0) where
  -- the seat as it was, what is left of its bookings, and the book that the call leaves
  abbrev s : Seat
  s = seat_of b seat

  abbrev rest : List Booking
  rest = without timeslot factor index (bookings s)

  abbrev c : Book
  c = (cancel_answer b seat timeslot factor index).book

  passed : CancelPassed b seat timeslot factor index
  unfolding cancel_answer
  passed = cancel_passed b seat timeslot factor index accepted

  rest_length : length rest + 1 ≡ held s
  unfolding none_named
  rest_length =
      let l = bookings s in
      let place = place_named timeslot factor index l in
      let good = seat_good b seat sized.seats passed.valid passed.seat_low in
      let named = placed_or_none timeslot factor index l ∙ passed.there in
      cancelled_length timeslot factor index l (sound s good).ordered
      (leb-false (length l) place named)
      ∙ plan_length s (sized.rows seat passed.seat_low)

  fits : length rest ≤ 40
  fits = omega (arith, rest_length)

  own_left : seat_of c seat ≡ with_plan s rest
  unfolding cancel_answer cancelled
  own_left = own_seat _ b seat _ accepted (omega (arith, passed.seat_low, sized.seats))

  -- that seat holds one less
  pub cancel_holds_one_less : held (seat_of c seat) + 1 ≡ held s
  cancel_holds_one_less =
      omega (arith, ap (λ (t : Seat). held t) own_left, with_plan-held s rest fits, rest_length)

  common_left : common c + (held s - 10) ≡ common b + (held s - 1 - 10)
  unfolding cancel_answer cancelled
  common_left =
      let made = after_answered _ b (with_seat b seat (with_plan s rest)) accepted in
      let law = room_after b seat (with_plan s rest) sized.seats passed.seat_low in
      let new = with_plan-held s rest fits in
      ap (λ (d : Book). common d + beyond s) made ∙ omega (arith, law, new, rest_length)

  -- the sum of what each holds beyond 10 is less by one if the seat held more than 10, else it is
  -- the same
  pub cancel_frees_common : 10 < held s → common c + 1 ≡ common b
  cancel_frees_common more = omega (arith, common_left, more)

  pub cancel_leaves_common : held s ≤ 10 → common c ≡ common b
  cancel_leaves_common few = omega (arith, common_left, few)

  -- its seat is full no more, so that it is not refused 19
  pub cancel_leaves_seat : seat_full (seat_of c seat) ≡ false
  unfolding seat_full
  cancel_leaves_seat =
      ne_eqb (held (seat_of c seat)) 40 (λ e. omega (arith, e, cancel_holds_one_less))

  valid_left : book_ok c ≡ true
  valid_left = cancel_kept b sized passed.valid seat timeslot factor index

  low_left : 10 < held s → common c < 80
  low_left more = omega (arith, cancel_frees_common more, room_high b passed.valid)

  -- if it held more than 10 the room is used up for no seat, so that none is refused 20
  pub cancel_leaves_room : 10 < held s → (t : Seat) → room_used_up c t ≡ false
  cancel_leaves_room more t = room_left c (low_left more) t

  -- so another learner's booking that was refused 20 is accepted then
  pub cancel_lets_another : 10 < held s → (other : ℕ) (x : Request) → (other ≡ seat → ⊥)
      → Bookable b other x → (book_answer b other x).refusal ≡ 20
      → (book_answer c other x).refusal ≡ 0
  cancel_lets_another more other x apart =
      taken_then c (low_left more) b other x valid_left
      (cancel_apart b seat other apart timeslot factor index)

  own_clear : (y : Booking) → clashes_with (bookings s) y ≡ false
      → clashes_with (bookings (with_plan s rest)) y ≡ false
  unfolding clashes_with
  own_clear y e =
      let p : Booking → Bool = λ z. not (clash y z) in
      let all : every p (bookings s) ≡ true = not-false (every p (bookings s)) e in
      ap (λ (l : List Booking). not (every p l)) (with_plan-bookings s rest fits)
      ∙ ap not (without_every timeslot factor index p (bookings s) all)

  own_bookable : (x : Request) → Bookable b seat x → Bookable c seat x
  unfolding with_plan
  own_bookable x fit =
      bookable c seat x (with_plan s rest) own_left valid_left fit.seat_low fit.form
      fit.live fit.permits (own_clear (as_booking x) fit.clear) fit.rules

  -- and one of the learner's own is, whether it was refused 19 or 20 till then: with fewer than 10
  -- left it needs no common room
  pub cancel_lets_own : (x : Request) → Bookable b seat x → (book_answer c seat x).refusal ≡ 0
  cancel_lets_own x fit =
      let own = own_bookable x fit in
      let one_less = cancel_holds_one_less in
      ⊎_elim
      (λ (more : 10 < held s).
      accepted_room c seat x own (omega (arith, one_less)) (not_used c (low_left more)))
      (λ (few : held s ≤ 10). accepted_tens c seat x own (omega (arith, few, one_less)))
      (below_or_not 10 (held s))

-- ---- "Room set free by .. close counts at once": `room_freed` of classbook has the sum, which is
-- less by what the seat held beyond 10
module _ (b : Book) (sized : Sized b) (seat : ℕ) (accepted : (close_answer b seat).refusal ≡ 0) where
  abbrev after_close : Book
  after_close = (close_answer b seat).book

  -- that seat holds none
  pub close_holds_none : held (seat_of after_close seat) ≡ 0
  unfolding closed
  close_holds_none = ap (λ (t : Seat). held t) (closed_seat b sized seat accepted)

  valid_before : book_ok b ≡ true
  unfolding close_answer
  valid_before = (seat_passed b seat accepted).valid

  low_close : 10 < held (seat_of b seat) → common after_close < 80
  low_close more = omega (arith, room_freed b sized seat accepted, room_high b valid_before, more)

  -- if it held more than 10 the room is used up for no seat, so that none is refused 20
  pub close_leaves_room : 10 < held (seat_of b seat) → (t : Seat) → room_used_up after_close t ≡ false
  close_leaves_room more t = room_left after_close (low_close more) t

  -- so another learner's booking that was refused 20 is accepted then
  pub close_lets_another : 10 < held (seat_of b seat) → (other : ℕ) (x : Request)
      → (other ≡ seat → ⊥) → Bookable b other x → (book_answer b other x).refusal ≡ 20
      → (book_answer after_close other x).refusal ≡ 0
  close_lets_another more other x apart =
      taken_then after_close (low_close more) b other x (close_kept b sized valid_before seat)
      (close_apart b seat other apart)

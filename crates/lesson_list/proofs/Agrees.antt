-- The list into forty blank records that are lent and the list by value agree: what the one leaves
-- in them, with its reply, is the other. Cited by the proof of `listed`. Assumes nothing.
use mathlib.Core.Path.{◌≡◌, refl, sym, ap, ◌∙◌}
use mathlib.Core.List.{List, ◌++◌}
use Prim.Native.Nat.{ℕ, zero, suc, ◌-◌, ◌+◌, ◌≤◌}
use native.Mathlib.Omega.{arith}
use lib.ListN.{length, drop, replicate, length-replicate, replicate-append-replicate}
use lib.Seq.{drop_at}
use Rattle.std.specs.Prelude.{Result, Ok, Err}
use Rattle.std.specs.Result.{IsErrAnd}
use Rattle.std.proofs.lemmas.Result.{err_from_is_err_and}
use Rattle.refusals.specs.declared.Refusal.{Refusal}
use Rattle.refusals.specs.Refusals.{Answer, refused, answered, Outcome, ◌leaving◌, first_of, answer, after, number_of, said}
use Rattle.refusals.proofs.First.{answer_refused, after_refused}
use Rattle.refusals.proofs.Numbers.{number_not_0}
use Rattle.bookings.specs.declared.Booking.{Booking}
use Rattle.seats.specs.declared.Seat.{Seat}
use Rattle.seats.specs.Seats.{blank, held, bookings}
use Rattle.plans.proofs.Plans.{plan_length, blank_row}
use Rattle.classbook.specs.declared.Book.{Book}
use Rattle.classbook.specs.declared.List as listed
use Rattle.classbook.specs.Book.{seat_of}
use Rattle.classbook.specs.Calls.{ListAnswer, seat_refusals, list_answer, said_list}
use Rattle.classbook.proofs.Passed.{seat_good, seat_passed}
use Rattle.classbook.proofs.Valid.{Sized}
use Rattle.listing.specs.Listing.{few_records, list_refusals, list_outcome}

-- a list by value, and an outcome by value
abbrev names : ℕ → ℕ → List Booking → ListAnswer
names n m row = record { refusal = n; count = m; row = row }

abbrev by_outcome : Outcome ℕ (List Booking) → ListAnswer
by_outcome (refused n leaving row) = names n 0 row
by_outcome (answered m leaving row) = names 0 m row

-- what stands behind the first k of n that are alike
behind : {A : Type 0} (a : A) (k n : ℕ) → k ≤ n → drop k (replicate n a) ≡ replicate (n - k) a
behind a k n h =
    let e : k + (n - k) ≡ n = omega arith in
    ap (λ (m : ℕ). drop k (replicate m a)) (sym e)
    ∙ ap (drop k) (sym (replicate-append-replicate k (n - k) a))
    ∙ drop_at (replicate k a) (replicate (n - k) a) k (length-replicate k a)

module _ (b : Book) (seat : ℕ) (sized : Sized b) where
  abbrev s : Seat
  s = seat_of b seat

  abbrev none : List Booking
  none = replicate 40 blank

  -- the records, where the seat's bookings are written into them
  abbrev made : List Booking
  made = bookings s ++ drop (length (bookings s)) none

  -- by the first refusal's number
  by_number : (m : ℕ) → first_of (seat_refusals b seat) ≡ m
      → by_outcome (answer m (length (bookings s)) leaving after m none made)
      ≡ names m (after m 0 (held s)) (after m none s.row)
  unfolding answer after
  by_number zero e =
      let p = seat_passed b seat e in
      let wide = sized.rows seat p.seat_low in
      let ok = seat_good b seat sized.seats p.valid p.seat_low in
      let n : length (bookings s) ≡ held s = plan_length s wide in
      let rest = behind blank (length (bookings s)) 40 (omega (arith, n)) in
      let r = ap (λ (l : List Booking). bookings s ++ l) rest in
      ap (λ (k : ℕ). names 0 k made) n ∙ ap (names 0 (held s)) (r ∙ sym (blank_row s ok wide))
  by_number (suc m) e =
      let h : suc m ≡ 0 → ⊥ = λ z. omega arith in
      let left = after_refused (suc m) none made h ∙ sym (after_refused (suc m) none s.row h) in
      ap (λ (a : Answer ℕ). by_outcome (a leaving after (suc m) none made))
      (answer_refused (suc m) (length (bookings s)) h) ∙ ap (names (suc m) 0) left
      ∙ ap (λ (k : ℕ). names (suc m) k (after (suc m) none s.row))
      (sym (after_refused (suc m) 0 (held s) h))

  -- what the list into blank records replied, with what it left in them, is the list by value
  pub lent_agrees : (r : Result ℕ Refusal) (ys zs : List Booking) → ys ≡ none → (said r leaving zs) ≡ list_outcome b seat ys → by_outcome (said r leaving zs) ≡ list_answer b seat
  unfolding list_outcome list_refusals few_records first_of list_answer
  lent_agrees r ys zs e told = ap by_outcome (told ∙ ap (list_outcome b seat) e) ∙ by_number (first_of (seat_refusals b seat)) refl

  -- refused, the records are as they were lent
  pub refused_agrees : (r : Result listed.List Refusal) (e : Refusal) (zs : List Booking) → IsErrAnd r (λ y. y ≡ e) → names (number_of e) 0 zs ≡ list_answer b seat → said_list r ≡ list_answer b seat
  unfolding list_answer
  refused_agrees r e zs h told =
      let p = err_from_is_err_and r h in
      let m : ℕ = first_of (seat_refusals b seat) in
      let n : number_of e ≡ m = ap (λ (a : ListAnswer). a.refusal) told in
      let left : after m none s.row ≡ none = after_refused m none s.row (λ z. number_not_0 e (n ∙ z)) in
      let row : zs ≡ none = ap (λ (a : ListAnswer). a.row) told ∙ left in
      rw (p.1, p.2) (ap (names (number_of e) 0) (sym row) ∙ told)

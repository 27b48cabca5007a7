-- What a seat's bookings say of each timeslot, where one is put in or taken out: only its own timeslot says something else. Cited by Plans and by slot_of's proof.
-- Assumes nothing.
use mathlib.Core.Path.{◌≡◌, sym, ap, ◌∙◌}
use mathlib.Core.Logic.{⊎_elim}
use mathlib.Core.Bool.{Bool, true, false, cond}
use mathlib.Core.List.{List, [], ◌∷◌, ◌++◌, append-nil}
use Prim.Native.Nat.{ℕ, ◌+◌, ◌≤◌, ◌<◌}
use native.Mathlib.Numerals.{add-one}
use native.Mathlib.Omega.{arith}
use lib.Dec.{eqb}
use lib.ListN.{length, take, drop, set, get_or, length-take, take-append-drop}
use lib.Seq.{take-suc, get_or-take, split_at}
use borrow.Author.Tests.{eq-eqb, ne_eqb, not-true}
use Rattle.laws.specs.Lists.{every, some, total, insert_at, remove_at}
use Rattle.laws.proofs.Cases.{equal_or_not}
use Rattle.laws.proofs.Lists.{every_at}
use Rattle.laws.proofs.Rows.{count_le}
use Rattle.conditions.specs.Conditions.{bad_code}
use Rattle.leaves.specs.Leaves.{pattern}
use Rattle.bookings.specs.declared.Booking.{Booking}
use Rattle.slots.specs.declared.Slot.{Slot}
use Rattle.slots.specs.Slots.{is_in, covered_in, way_in, count_in, type_two_in, slot_of, summary_of}
use Rattle.slots.specs.Inside.{no_slot, joined_with}
use Rattle.slots.proofs.OneMore.{joined_there, joined_elsewhere}
use Rattle.slots.proofs.ByMasks.{good_code}
use Rattle.slots.proofs.Summary.{summary_at, summary_set}

-- ---- one put in at a place
module _ (l : List Booking) (p : ℕ) (x : Booking) where
  put_there : slot_of x.timeslot (insert_at p x l) ≡ joined_with (slot_of x.timeslot l) x
  put_there =
      joined_there x.timeslot (take p l) x (drop p l) (λ i. x.timeslot) ∙ ap (λ (m : List Booking). joined_with (slot_of x.timeslot m) x) (take-append-drop p l)

  put_elsewhere : (u : ℕ) → (u ≡ x.timeslot → ⊥) → slot_of u l ≡ slot_of u (insert_at p x l)
  put_elsewhere u n = ap (slot_of u) (sym (take-append-drop p l)) ∙ sym (joined_elsewhere u (take p l) x (drop p l) (λ e. n (sym e)))

  pub summary_in : x.timeslot ≤ 14 → set (summary_of l) x.timeslot (joined_with (get_or (summary_of l) x.timeslot no_slot) x) ≡ summary_of (insert_at p x l)
  summary_in low =
      summary_set l (insert_at p x l) x.timeslot (joined_with (get_or (summary_of l) x.timeslot no_slot) x) low
      (ap (λ (s : Slot). joined_with s x) (summary_at l no_slot x.timeslot low) ∙ sym put_there) put_elsewhere

-- ---- one taken out at a place
module _ (l : List Booking) (p : ℕ) (d : Booking) (inside : p < length l) where
  abbrev gone : Booking
  gone = get_or l p d

  out_elsewhere : (u : ℕ) → (u ≡ gone.timeslot → ⊥) → slot_of u l ≡ slot_of u (remove_at p l)
  out_elsewhere u n =
      let parts : l ≡ take p l ++ gone ∷ drop (p + 1) l = split_at l p d inside ∙ ap (λ (j : ℕ). take p l ++ gone ∷ drop j l) (sym (add-one p)) in
      ap (slot_of u) parts ∙ joined_elsewhere u (take p l) gone (drop (p + 1) l) (λ e. n (sym e))

  pub summary_out : gone.timeslot ≤ 14 → (v : Slot) → v ≡ slot_of gone.timeslot (remove_at p l) → set (summary_of l) gone.timeslot v ≡ summary_of (remove_at p l)
  summary_out low v ev = summary_set l (remove_at p l) gone.timeslot v low ev out_elsewhere

-- ---- none
pub sum_none : (t : ℕ) (s : Slot) → s ≡ no_slot → s ≡ slot_of t []
unfolding slot_of covered_in way_in count_in type_two_in pattern some total no_slot
sum_none t s e = e

-- ---- one after the other, at place i of a row
module _ (row : List Booking) (n i : ℕ) (t : ℕ) (d : Booking) (fits : n ≤ length row) (lt : i < n) where
  abbrev here : Booking
  here = get_or row i d

  next : take (i + 1) row ≡ take i row ++ here ∷ []
  next = ap (λ (j : ℕ). take j row) (add-one i) ∙ take-suc row i d (omega arith)

  pub good_here : every good_code (take n row) ≡ true → bad_code here.factor here.index ≡ false
  good_here good =
      let p : i < length (take n row) = omega (arith, length-take n row) in
      not-true _ (ap good_code (sym (get_or-take n row i d lt)) ∙ every_at good_code (take n row) i d p good)

  pub sum_on : (s v : Slot) → s ≡ slot_of t (take i row) → v ≡ cond (eqb here.timeslot t) (joined_with s here) s → v ≡ slot_of t (take (i + 1) row)
  sum_on s v es ev =
      let before = es ∙ ap (slot_of t) (sym (append-nil (take i row))) in
      ⊎_elim
      (λ e. ev ∙ ap (λ (o : Bool). cond o (joined_with s here) s) (eq-eqb here.timeslot t e)
      ∙ ap (λ (u : Slot). joined_with u here) before ∙ sym (joined_there t (take i row) here [] e) ∙ ap (slot_of t) (sym next))
      (λ n. ev ∙ ap (λ (o : Bool). cond o (joined_with s here) s) (ne_eqb here.timeslot t n)
      ∙ before ∙ sym (joined_elsewhere t (take i row) here [] n) ∙ ap (slot_of t) (sym next))
      (equal_or_not here.timeslot t)

  pub sum_few : (s : Slot) → s ≡ slot_of t (take i row) → s.count ≤ i
  unfolding slot_of count_in
  sum_few s es =
      let c : s.count ≡ count_in t (take i row) = ap (λ (u : Slot). u.count) es in
      omega (arith, c, count_le (is_in t) (take i row), length-take i row)

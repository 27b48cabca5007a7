-- Document 01 had no long count 4, and 16 met a user "above this seat's count". What passed then
-- passes by document 02. No other definition or proof has the old rules. Cited by OldSentence and
-- Default; it is for the reader. Assumes nothing.
use mathlib.Core.Path.{◌≡◌, ap, ◌∙◌}
use mathlib.Core.Bool.{Bool, true, false, cond, not, ◌&&◌, ◌||◌}
use mathlib.Core.Logic.{◌⊎◌, inl, inr, ⊎_elim}
use Prim.Native.Nat.{ℕ, ◌≤◌}
use lib.Dec.{eqb, ltb}
use borrow.Author.Tests.{ltb-false, le-leb, eqb-true, eqb-false, not-true}
use Rattle.laws.proofs.Bools.{true_false, and_true, both, or_false}
use Rattle.laws.proofs.Cases.{by_cases}
use Rattle.refusals.proofs.First.{first_none}
use Rattle.conditions.specs.Conditions.{bad_type, bad_cell, bad_count, bad_user, bad_booked_user}
use Rattle.conditions.proofs.Counts.{one_to_count}
use Rattle.tables.specs.Tables.{form_refusals, settings_refusals}
use Rattle.bookings.specs.declared.Booking.{Booking}
use Rattle.bookings.specs.Bookings.{form_of}
use Rattle.seats.specs.declared.Seat.{Seat}
use Rattle.seats.specs.Conditions.{count_for, not_permitted, off_beacon}
use Rattle.seats.specs.Seats.{good_settings, stands, stands_in}

-- ---- the old rules

-- 3: "midamble count not 8 or 16": 4 was none
unfoldable pub old_good_settings : Seat → Bool
old_good_settings s = good_settings s && not (eqb s.long 4)

-- 16: "user above this seat's count"
unfoldable pub old_above : ℕ → ℕ → Booking → Bool
old_above long short x = ltb (count_for long short x.burst) x.user

unfoldable pub old_stands_in : Seat → Booking → Bool
old_stands_in s x =
    eqb (form_of x) 0 && (not (old_above s.long s.short x) && not (off_beacon s.case s.k x))

-- ---- what passed

-- a booking whose own numbers pass has a user from 1 on
pub user_low : (x : Booking) → form_of x ≡ 0 → 1 ≤ x.user
unfolding form_of form_refusals bad_booked_user
user_low x e =
    let two = first_none 1 (bad_type x.burst) _ e in
    let four = first_none 3 (bad_booked_user x.burst x.user) _ two.1 in
    ltb-false _ _ (or_false (ltb x.user 1) _ four.0).0

-- the seat's count for a burst type is none that 3 refuses, and not 4
module _ (s : Seat) (good : old_good_settings s ≡ true) where
  split : (good_settings s ≡ true) × (not (eqb s.long 4) ≡ true)
  unfolding old_good_settings
  split = and_true (good_settings s) _ good

  counts : (bad_count 1 s.long ≡ false) × (bad_count 2 s.short ≡ false)
  unfolding good_settings settings_refusals
  counts =
      let none = eqb-true _ 0 split.0 in
      let one = first_none 0 (bad_cell s.cell) _ none in
      let three = first_none 2 (bad_count 1 s.long || bad_count 2 s.short) _ one.1 in
      or_false (bad_count 1 s.long) (bad_count 2 s.short) three.0

  passes : (burst : ℕ) → bad_count burst (count_for s.long s.short burst) ≡ false
  unfolding bad_count count_for
  passes burst = ⊎_elim (λ t. rw t counts.1) (λ f. rw f counts.0) (by_cases (eqb burst 2))

  not_four : (burst : ℕ) → count_for s.long s.short burst ≡ 4 → ⊥
  unfolding bad_count count_for
  not_four burst = by (by_cases (eqb burst 2))
    where
      short_four : s.short ≡ 4 → ⊥
      short_four e = true_false (rw e at counts.1)

      by : (eqb burst 2 ≡ true) ⊎ (eqb burst 2 ≡ false) → cond (eqb burst 2) s.short s.long ≡ 4 → ⊥
      by (inl t) = rw t short_four
      by (inr f) = rw f (eqb-false _ _ (not-true _ split.1))

  -- so a user from 1 to it is permitted
  permitted_then : (x : Booking) → form_of x ≡ 0 → old_above s.long s.short x ≡ false
      → not_permitted s.long s.short x ≡ false
  unfolding old_above not_permitted bad_user
  permitted_then x form below =
      let count = count_for s.long s.short x.burst in
      let same = one_to_count x.user x.burst count (passes x.burst) (not_four x.burst) in
      let low = le-leb 1 x.user (user_low x form) in
      let high = le-leb x.user count (ltb-false _ _ below) in
      ap not (same ∙ both _ _ low high)

  pub stands_then : (x : Booking) → old_stands_in s x ≡ true → stands_in s x ≡ true
  unfolding old_stands_in stands
  stands_then x h =
      let a = and_true (eqb (form_of x) 0) _ h in
      let b = and_true (not (old_above s.long s.short x)) _ a.1 in
      let form = eqb-true _ 0 a.0 in
      both _ _ a.0 (both _ _ (ap not (permitted_then x form (not-true _ b.0))) b.1)

  pub settings_then : good_settings s ≡ true
  settings_then = split.0

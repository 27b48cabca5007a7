-- What the bookings of a timeslot say where one is put in among them: of its own timeslot the summary with one booking more, of the others what they said before.
-- Cited by the crates seats and plans. Assumes nothing.
use mathlib.Core.Path.{◌≡◌, refl, sym, ◌∙◌}
use mathlib.Core.Bool.{Bool, true, false, cond, ◌&&◌, ◌||◌, or_comm}
use mathlib.Core.List.{List, ◌∷◌, ◌++◌}
use Prim.Native.Nat.{ℕ, ◌+◌}
use native.Mathlib.Nat.{zero-add}
use native.Mathlib.Omega.{arith}
use lib.Bits.{bit_or}
use lib.Dec.{eqb}
use Rattle.std.specs.Prelude.{Option, Some, None}
use borrow.Author.Tests.{eq-eqb, ne_eqb}
use Rattle.laws.specs.Lists.{one, some}
use Rattle.laws.proofs.Some.{some_put, total_put}
use Rattle.conditions.specs.declared.Direction.{Direction}
use Rattle.conditions.specs.declared.Direction.TheVariants as dir
use Rattle.conditions.specs.Conditions.{is_down}
use Rattle.leaves.specs.Leaves.{covers, pattern}
use Rattle.leaves.proofs.Patterns.{pattern_alike, or_pattern}
use Rattle.bookings.specs.declared.Booking.{Booking}
use Rattle.slots.specs.declared.Slot.{Slot}
use Rattle.slots.specs.Slots.{is_in, covered_in, way_in, count_in, type_two_in, slot_of}
use Rattle.slots.specs.Inside.{mask, way_with, joined_with}

-- the ways, by what some booking is
way_more : (d : Direction) (down there : Bool) → cond (is_down d || down) (Some dir.Down) (Some dir.Up) ≡ way_with (cond down (Some dir.Down) (cond there (Some dir.Up) None)) d
unfolding way_with is_down
way_more dir.Down true there = refl
way_more dir.Down false true = refl
way_more dir.Down false false = refl
way_more dir.Up true there = refl
way_more dir.Up false true = refl
way_more dir.Up false false = refl

-- part by part
same_slots : (m n : ℕ) (v w : Option Direction) (c k : ℕ) (s u : Bool) → m ≡ n → v ≡ w → c ≡ k → s ≡ u
    → ◌≡◌ {A = Slot} (record { leaves = m; way = v; count = c; second = s }) (record { leaves = n; way = w; count = k; second = u })
same_slots m n v w c k s u em ev ec es = rw (em, ev, ec, es)

module _ (t : ℕ) (a : List Booking) (x : Booking) (b : List Booking) where
  -- where it is a booking of t
  module _ (here : is_in t x ≡ true) where
    leaves_more : pattern (covered_in t (a ++ x ∷ b)) ≡ bit_or (pattern (covered_in t (a ++ b))) (mask x)
    unfolding covered_in
    leaves_more =
        pattern_alike (covered_in t (a ++ x ∷ b)) (λ i. covered_in t (a ++ b) i || covers x.factor x.index i)
        (λ i. some_put (λ y. is_in t y && covers y.factor y.index i) a x b
        ∙ rw here (or_comm (covers x.factor x.index i) (some (λ y. is_in t y && covers y.factor y.index i) (a ++ b))))
        ∙ sym (or_pattern (covered_in t (a ++ b)) (covers x.factor x.index))

    way_joined : way_in t (a ++ x ∷ b) ≡ way_with (way_in t (a ++ b)) x.direction
    unfolding way_in
    way_joined =
        rw (some_put (λ y. is_in t y && is_down y.direction) a x b, some_put (is_in t) a x b, here)
        (way_more x.direction (some (λ y. is_in t y && is_down y.direction) (a ++ b)) (some (is_in t) (a ++ b)))

    count_more : count_in t (a ++ x ∷ b) ≡ count_in t (a ++ b) + 1
    unfolding count_in
    count_more =
        let one_more : one (is_in t x) ≡ 1 = rw here in
        omega (arith, total_put (λ y. one (is_in t y)) a x b, one_more)

    second_more : type_two_in t (a ++ x ∷ b) ≡ (type_two_in t (a ++ b) || eqb x.burst 2)
    unfolding type_two_in
    second_more =
        some_put (λ y. is_in t y && eqb y.burst 2) a x b ∙ rw here (or_comm (eqb x.burst 2) (some (λ y. is_in t y && eqb y.burst 2) (a ++ b)))

  pub joined_there : x.timeslot ≡ t → slot_of t (a ++ x ∷ b) ≡ joined_with (slot_of t (a ++ b)) x
  unfolding slot_of joined_with
  joined_there e =
      let here = eq-eqb x.timeslot t e in
      same_slots _ _ _ _ _ _ _ _ (leaves_more here) (way_joined here) (count_more here) (second_more here)

  -- where it is one of another timeslot
  pub joined_elsewhere : (x.timeslot ≡ t → ⊥) → slot_of t (a ++ x ∷ b) ≡ slot_of t (a ++ b)
  unfolding slot_of covered_in way_in count_in type_two_in
  joined_elsewhere e =
      let away = ne_eqb x.timeslot t e in
      same_slots _ _ _ _ _ _ _ _
      (pattern_alike (covered_in t (a ++ x ∷ b)) (covered_in t (a ++ b)) (λ i. some_put (λ y. is_in t y && covers y.factor y.index i) a x b ∙ rw away))
      (rw (some_put (λ y. is_in t y && is_down y.direction) a x b, some_put (is_in t) a x b, away))
      (total_put (λ y. one (is_in t y)) a x b ∙ rw away (zero-add _))
      (some_put (λ y. is_in t y && eqb y.burst 2) a x b ∙ rw away)

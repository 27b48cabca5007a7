-- A booking's test against what is kept of its timeslot is document 01's clash with some booking of the seat, where those clash with each other nowhere.
-- Cited by the crates seats and facts. Assumes nothing.
use mathlib.Core.Path.{◌≡◌, refl, sym, ap, ◌∙◌}
use mathlib.Core.Logic.{⊎_elim}
use mathlib.Core.Bool.{Bool, true, false, cond, not, xor, ◌&&◌, ◌||◌, or-true, and_comm}
use mathlib.Core.List.{List, [], ◌∷◌}
use Prim.Native.Nat.{ℕ, ◌+◌}
use native.Mathlib.Nat.{zero-add}
use native.Mathlib.Omega.{arith}
use lib.Bits.{bit_and}
use lib.Dec.{eqb}
use Rattle.std.specs.Prelude.{Some, None}
use borrow.Author.Tests.{eqb-true, ne_eqb, not-true}
use Rattle.laws.specs.Lists.{one, every, some, pairs, total}
use Rattle.laws.proofs.Bools.{true_false, and_true}
use Rattle.laws.proofs.Cases.{by_cases, either}
use Rattle.laws.proofs.Lists.{hd, tl}
use Rattle.laws.proofs.Some.{some_same, some_alike, some_or, some_and, some_swap}
use Rattle.conditions.specs.declared.Direction.{Direction}
use Rattle.conditions.specs.declared.Direction.TheVariants as dir
use Rattle.conditions.specs.Conditions.{is_down, bad_code}
use Rattle.leaves.specs.Leaves.{covers, the_leaves, pattern}
use Rattle.leaves.proofs.Patterns.{and_pattern}
use Rattle.leaves.proofs.Shared.{shared_leaf}
use Rattle.bookings.specs.declared.Booking.{Booking}
use Rattle.bookings.specs.Bookings.{overlaps, same_direction, mixed, clash}
use Rattle.bookings.proofs.Clash.{eqb_turn, beside}
use Rattle.slots.specs.Slots.{is_in, covered_in, way_in, count_in, type_two_in, slot_of}
use Rattle.slots.specs.Inside.{mask, turns_from, hits_with}

-- ---- "nonzero and" is a shared leaf
abbrev pub good_code : Booking → Bool
good_code y = not (bad_code y.factor y.index)

module _ (x y : Booking) (gx : bad_code x.factor x.index ≡ false) (gy : bad_code y.factor y.index ≡ false) where
  overlap_leaf : some (λ i. covers x.factor x.index i && covers y.factor y.index i) the_leaves ≡ overlaps x y
  unfolding overlaps
  overlap_leaf = shared_leaf x.factor x.index y.factor y.index gx gy

  -- two codes overlap exactly where the and of their masks is not 0
  pub overlap_masks : overlaps x y ≡ not (eqb (bit_and (mask x) (mask y)) 0)
  overlap_masks = sym (and_pattern (covers x.factor x.index) (covers y.factor y.index) ∙ overlap_leaf)

-- the test of one leaf, the booking's first
pulled : (c i v : Bool) → (c && (i && v)) ≡ (i && (c && v))
pulled true i v = refl
pulled false true v = refl
pulled false false v = refl

module _ (t : ℕ) (x : Booking) (l : List Booking) (gx : bad_code x.factor x.index ≡ false) (good : every good_code l ≡ true) where
  abbrev own : ℕ → Bool
  own i = covers x.factor x.index i

  -- the and of what is kept with a code's mask is not 0 exactly where a booking of that timeslot overlaps it
  pub leaf_taken : not (eqb (bit_and (pattern (covered_in t l)) (mask x)) 0) ≡ some (λ y. is_in t y && overlaps x y) l
  unfolding covered_in
  leaf_taken =
      and_pattern (covered_in t l) own
      ∙ some_alike (λ i. covered_in t l i && own i) (λ i. some (λ y. own i && (is_in t y && covers y.factor y.index i)) l) the_leaves
      (λ i. and_comm (covered_in t l i) (own i) ∙ sym (some_and (own i) (λ y. is_in t y && covers y.factor y.index i) l))
      ∙ some_swap (λ (y : Booking) (i : ℕ). own i && (is_in t y && covers y.factor y.index i)) l the_leaves
      ∙ some_same good_code (λ y. some (λ i. own i && (is_in t y && covers y.factor y.index i)) the_leaves) (λ y. is_in t y && overlaps x y) l good
      (λ y g.
      some_alike (λ i. own i && (is_in t y && covers y.factor y.index i)) (λ i. is_in t y && (own i && covers y.factor y.index i)) the_leaves
      (λ i. pulled (own i) (is_in t y) (covers y.factor y.index i))
      ∙ some_and (is_in t y) (λ i. own i && covers y.factor y.index i) the_leaves
      ∙ ap (λ (o : Bool). is_in t y && o) (overlap_leaf x y gx (not-true _ g)))

-- ---- direction and kind: those of one timeslot that do not clash are alike, so one word says it of all
absorbed : (a s : Bool) → (s ≡ true → a ≡ true) → (a || s) ≡ a
absorbed true s h = refl
absorbed false true h = sym (h refl)
absorbed false false h = refl

abbrev pub no_clash : Booking → Booking → Bool
no_clash x y = not (clash x y)

module _ (t : ℕ) (q : Booking → Bool) (same : (y z : Booking) → clash y z ≡ false → y.timeslot ≡ z.timeslot → q y ≡ q z) where
  -- what holds of a later one of t holds of the first
  like_first : (r : Bool → Bool) (y : Booking) (l : List Booking) → is_in t y ≡ true → every (no_clash y) l ≡ true → some (λ z. is_in t z && r (q z)) l ≡ true → r (q y) ≡ true
  unfolding some
  like_first r y [] h e s = true_false (sym s)
  like_first r y (z ∷ l) h e s = ⊎_elim found (like_first r y l h (tl (no_clash y) z l e)) (either (is_in t z && r (q z)) (some (λ z. is_in t z && r (q z)) l) s)
    where
      found : (is_in t z && r (q z)) ≡ true → r (q y) ≡ true
      found f =
          let p = and_true (is_in t z) (r (q z)) f in
          ap r (same y z (not-true (clash y z) (hd (no_clash y) z l e)) (eqb-true _ _ h ∙ sym (eqb-true _ _ p.0))) ∙ p.1

  -- some of t differs from b exactly where there is one, and what is said of all differs from b
  differs : (b : Bool) (l : List Booking) → pairs no_clash l ≡ true → some (λ y. is_in t y && xor (q y) b) l ≡ (some (is_in t) l && xor (some (λ y. is_in t y && q y) l) b)
  unfolding some pairs
  differs b [] e = refl
  differs b (y ∷ l) e = ⊎_elim there (away (differs b l (and_true (every (no_clash y) l) (pairs no_clash l) e).1)) (by_cases (is_in t y))
    where
      goal : Type 0
      goal = ((is_in t y && xor (q y) b) || some (λ y. is_in t y && xor (q y) b) l) ≡ ((is_in t y || some (is_in t) l) && xor ((is_in t y && q y) || some (λ y. is_in t y && q y) l) b)

      away : some (λ y. is_in t y && xor (q y) b) l ≡ (some (is_in t) l && xor (some (λ y. is_in t y && q y) l) b) → is_in t y ≡ false → goal
      away rest f = rw f rest

      there : is_in t y ≡ true → goal
      there h =
          let o = (and_true (every (no_clash y) l) (pairs no_clash l) e).0 in
          let first = absorbed (xor (q y) b) (some (λ z. is_in t z && xor (q z) b) l) (like_first (λ v. xor v b) y l h o) in
          let all = absorbed (q y) (some (λ z. is_in t z && q z) l) (like_first (λ v. v) y l h o) in
          rw h (first ∙ ap (λ (v : Bool). xor v b) (sym all))

-- some that is both is there
some_there : (t : ℕ) (q : Booking → Bool) (l : List Booking) → some (λ y. is_in t y && q y) l ≡ true → some (is_in t) l ≡ true
unfolding some
some_there t q [] e = e
some_there t q (y ∷ l) e =
    ⊎_elim (λ a. rw (and_true (is_in t y) (q y) a).0) (λ s. rw (some_there t q l s) (or-true (is_in t y))) (either (is_in t y && q y) (some (λ y. is_in t y && q y) l) e)

turn_told : (down there : Bool) (d : Direction) → (down ≡ true → there ≡ true) → turns_from (cond down (Some dir.Down) (cond there (Some dir.Up) None)) d ≡ (there && xor down (is_down d))
unfolding turns_from is_down xor
turn_told true true dir.Up h = refl
turn_told true true dir.Down h = refl
turn_told true false d h = true_false (sym (h refl))
turn_told false true dir.Up h = refl
turn_told false true dir.Down h = refl
turn_told false false d h = refl

-- the number of those is 0 where there is none
none_counted : (t : ℕ) (l : List Booking) → not (eqb (count_in t l) 0) ≡ some (is_in t) l
unfolding count_in total some
none_counted t [] = refl
none_counted t (y ∷ l) = ⊎_elim (λ h. rw h (ap not (more (total (λ x. one (is_in t x)) l)))) (λ f. rw f (rw zero-add (none_counted t l))) (by_cases (is_in t y))
  where
    more : (n : ℕ) → eqb (1 + n) 0 ≡ false
    more n = ne_eqb (1 + n) 0 (λ z. omega arith)

-- ---- directions and types differ as their tests do
turned_from : (d e : Direction) → not (same_direction d e) ≡ xor (is_down e) (is_down d)
unfolding same_direction is_down xor
turned_from dir.Up dir.Up = refl
turned_from dir.Up dir.Down = refl
turned_from dir.Down dir.Up = refl
turned_from dir.Down dir.Down = refl

xor_turn : (a b : Bool) → xor a b ≡ xor b a
unfolding xor
xor_turn true true = refl
xor_turn true false = refl
xor_turn false true = refl
xor_turn false false = refl

-- the three grounds, the leaves first
three_grounds : (i a b c : Bool) → (i && (a || (b || c))) ≡ ((i && c) || ((i && a) || (i && b)))
three_grounds true true true true = refl
three_grounds true true true false = refl
three_grounds true true false true = refl
three_grounds true true false false = refl
three_grounds true false true true = refl
three_grounds true false true false = refl
three_grounds true false false true = refl
three_grounds true false false false = refl
three_grounds false a b c = refl

module _ (x : Booking) (l : List Booking) (gx : bad_code x.factor x.index ≡ false) (good : every good_code l ≡ true) (free : pairs no_clash l ≡ true) where
  abbrev t : ℕ
  t = x.timeslot

  pub directions : turns_from (way_in t l) x.direction ≡ some (λ y. is_in t y && not (same_direction x.direction y.direction)) l
  unfolding way_in
  directions =
      turn_told (some (λ y. is_in t y && is_down y.direction) l) (some (is_in t) l) x.direction (some_there t (λ y. is_down y.direction) l)
      ∙ sym (differs t (λ y. is_down y.direction) (λ y z c s. (beside y z c s).same) (is_down x.direction) l free)
      ∙ some_alike (λ y. is_in t y && xor (is_down y.direction) (is_down x.direction)) (λ y. is_in t y && not (same_direction x.direction y.direction)) l
      (λ y. ap (λ (o : Bool). is_in t y && o) (sym (turned_from x.direction y.direction)))

  types : (not (eqb (count_in t l) 0) && xor (type_two_in t l) (eqb x.burst 2)) ≡ some (λ y. is_in t y && mixed x.burst y.burst) l
  unfolding type_two_in mixed
  types =
      ap (λ (o : Bool). o && xor (some (λ y. is_in t y && eqb y.burst 2) l) (eqb x.burst 2)) (none_counted t l)
      ∙ sym (differs t (λ y. eqb y.burst 2) (λ y z c s. (beside y z c s).kind) (eqb x.burst 2) l free)
      ∙ some_alike (λ y. is_in t y && xor (eqb y.burst 2) (eqb x.burst 2)) (λ y. is_in t y && xor (eqb x.burst 2) (eqb y.burst 2)) l
      (λ y. ap (λ (o : Bool). is_in t y && o) (xor_turn (eqb y.burst 2) (eqb x.burst 2)))

  one_clash : (y : Booking)
      → clash x y ≡ ((is_in t y && overlaps x y) || ((is_in t y && not (same_direction x.direction y.direction)) || (is_in t y && mixed x.burst y.burst)))
  unfolding clash
  one_clash y =
      ap (λ (o : Bool). o && (not (same_direction x.direction y.direction) || (mixed x.burst y.burst || overlaps x y))) (eqb_turn x.timeslot y.timeslot)
      ∙ three_grounds (is_in t y) (not (same_direction x.direction y.direction)) (mixed x.burst y.burst) (overlaps x y)

  pub hits_clash : hits_with (slot_of x.timeslot l) x ≡ some (clash x) l
  unfolding hits_with slot_of
  hits_clash =
      rw (leaf_taken t x l gx good, directions, types)
      (sym (
      some_alike (clash x)
      (λ y. (is_in t y && overlaps x y) || ((is_in t y && not (same_direction x.direction y.direction)) || (is_in t y && mixed x.burst y.burst))) l one_clash
      ∙ some_or (λ y. is_in t y && overlaps x y) (λ y. (is_in t y && not (same_direction x.direction y.direction)) || (is_in t y && mixed x.burst y.burst)) l
      ∙ ap (λ (o : Bool). some (λ y. is_in t y && overlaps x y) l || o)
      (some_or (λ y. is_in t y && not (same_direction x.direction y.direction)) (λ y. is_in t y && mixed x.burst y.burst) l)))

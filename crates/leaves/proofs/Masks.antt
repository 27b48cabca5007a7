-- Every code's pattern as the code makes it, by one computed test over all codes. Cited by mask_of's proof, and by the crates bookings and facts.
-- Assumes nothing.
use mathlib.Core.Path.{◌≡◌, refl, sym, subst}
use mathlib.Core.Bool.{Bool, true, false, ◌&&◌, ◌||◌}
use mathlib.Core.Logic.{⊎_elim}
use mathlib.Core.List.{[], ◌∷◌}
use Prim.Native.Nat.{ℕ, zero, suc, ◌+◌, ◌-◌, ◌*◌, ◌%◌, ◌^◌, ◌≤◌, ◌<◌}
use native.Mathlib.Nat.{eq-or-lt_of_le, le_of_suc-le-suc}
use native.Mathlib.Omega.{arith}
use lib.Dec.{eqb, ltb, leb}
use borrow.Author.Tests.{eqb-true, ltb-true, ltb-false, leb-true, not-false}
use Rattle.laws.specs.Lists.{total}
use Rattle.laws.proofs.Bools.{and_true, or_false}
use Rattle.laws.proofs.Cases.{one_of}
use Rattle.conditions.specs.Conditions.{bad_factor, bad_code}
use Rattle.leaves.specs.Leaves.{leaves_of, first_leaf, covers, pattern}

-- n ones, shifted by a, in 32 bits
abbrev pub shifted : ℕ → ℕ → ℕ
shifted n a = (1 * 2 ^ n % 4294967296 - 1) * 2 ^ a % 4294967296

-- all that is asked of one code
right : ℕ → ℕ → Bool
right Q k =
    leb 1 (leaves_of Q) && (leb (first_leaf Q k + leaves_of Q) 16
    && (leb 1 (1 * 2 ^ leaves_of Q % 4294967296) && (eqb (shifted (leaves_of Q) (first_leaf Q k)) (pattern (covers Q k)) && ltb (pattern (covers Q k)) 65536)))

-- the same, part by part
pub record GoodCode (Q k : ℕ) : Type 0 where
  pub one_least : 1 ≤ leaves_of Q
  pub ends : first_leaf Q k + leaves_of Q ≤ 16
  pub ones : 1 ≤ 1 * 2 ^ leaves_of Q % 4294967296
  pub mask : shifted (leaves_of Q) (first_leaf Q k) ≡ pattern (covers Q k)
  pub narrow : pattern (covers Q k) < 65536

-- and of those with the indices from 1 to n
all_right : ℕ → ℕ → Bool
all_right Q zero = true
all_right Q (suc n) = right Q (suc n) && all_right Q n

one_right : (Q n k : ℕ) → all_right Q n ≡ true → 1 ≤ k → k ≤ n → right Q k ≡ true
unfolding all_right
one_right Q zero k e a b = absurd (omega arith)
one_right Q (suc n) k e a b =
    let p = and_true (right Q (suc n)) (all_right Q n) e in
    ⊎_elim (λ t. subst (λ (j : ℕ). right Q j ≡ true) (sym t) p.0) (λ l. one_right Q n k p.1 a (le_of_suc-le-suc l)) (eq-or-lt_of_le b)

-- what holds of each of the five factors holds of that of a good code
module _ (Q k : ℕ) (good : bad_code Q k ≡ false) where
  pub of_five : (P : ℕ → Type 0) → P 1 → P 2 → P 4 → P 8 → P 16 → P Q
  unfolding bad_code bad_factor
  of_five P a b c d e =
      let f = (or_false (bad_factor Q) (ltb k 1 || ltb Q k) good).0 in
      one_of P Q 1 (2 ∷ 4 ∷ 8 ∷ 16 ∷ []) (a, (b, (c, (d, (e, tt))))) (not-false _ f)

  pub index_good : (1 ≤ k) × (k ≤ Q)
  unfolding bad_code
  index_good =
      let i = or_false (ltb k 1) (ltb Q k) (or_false (bad_factor Q) (ltb k 1 || ltb Q k) good).1 in
      (ltb-false k 1 i.0, ltb-false Q k i.1)

  tested : all_right Q Q ≡ true
  unfolding all_right right leaves_of first_leaf covers pattern total
  tested = of_five (λ q. all_right q q ≡ true) refl refl refl refl refl

  -- it covers a leaf at least and none but the sixteen, and its mask is its pattern
  pub covered : GoodCode Q k
  unfolding right
  covered =
      let a = and_true (leb 1 (leaves_of Q)) _ (one_right Q Q k tested index_good.0 index_good.1) in
      let b = and_true (leb (first_leaf Q k + leaves_of Q) 16) _ a.1 in
      let c = and_true (leb 1 (1 * 2 ^ leaves_of Q % 4294967296)) _ b.1 in
      let d = and_true (eqb (shifted (leaves_of Q) (first_leaf Q k)) (pattern (covers Q k))) (ltb (pattern (covers Q k)) 65536) c.1 in
      record { one_least = leb-true _ _ a.0; ends = leb-true _ _ b.0; ones = leb-true _ _ c.0; mask = eqb-true _ _ d.0; narrow = ltb-true _ _ d.1 }

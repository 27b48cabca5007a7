-- Condition 3 and the users that a count permits say the same of counts: one is refused exactly where it permits nobody. Every count but the long 4 permits the
-- users from 1 to it. Cited by the crates classbook and facts. Assumes nothing.
use mathlib.Core.Path.{◌≡◌, refl}
use mathlib.Core.Bool.{Bool, true, false, cond, not, ◌&&◌, ◌||◌}
use mathlib.Core.List.{[], ◌∷◌}
use mathlib.Core.Logic.{◌⊎◌, inl, inr}
use Prim.Native.Nat.{ℕ}
use native.Mathlib.Omega.{arith}
use lib.Dec.{eqb, leb}
use borrow.Author.Tests.{not-false}
use Rattle.laws.proofs.Bools.{or_none}
use Rattle.laws.proofs.Cases.{one_of}
use Rattle.codes.specs.declared.Code.{Code}
use Rattle.codes.specs.Codes.{short, long, code_of, permitted}
use Rattle.codes.proofs.Permitted.{All, First, Odd, setting}
use Rattle.conditions.specs.Conditions.{bad_count}

-- condition 3 by whether the code is the short one
abbrev bad : Bool → ℕ → Bool
bad b count = cond b (not (eqb count 3 || eqb count 6)) (not (eqb count 4 || eqb count 8 || eqb count 16))

good : (b : Bool) (count k : ℕ) → (let c = cond b short long in All c count k ⊎ (First c count k ⊎ Odd c count k)) → bad b count ≡ false
good true count k (inl all) = rw all.0 refl
good true count k (inr (inl first)) = rw first.0 refl
good true count k (inr (inr odd)) = absurd (omega (arith, odd.0))
good false count k (inl all) = rw all.0 refl
good false count k (inr (inl first)) = rw first.0 refl
good false count k (inr (inr odd)) = let four : count ≡ 4 = omega (arith, odd.0) in rw four refl

-- a count that permits a user is not refused
pub count_given : (burst count user : ℕ) → permitted (code_of burst) count user ≡ true → bad_count burst count ≡ false
unfolding bad_count code_of
count_given burst count user e = good (eqb burst 2) count user (setting (code_of burst) count user e)

-- and one that is not refused permits user 1
pub count_permits : (burst count : ℕ) → bad_count burst count ≡ false → permitted (code_of burst) count 1 ≡ true
unfolding bad_count code_of permitted
count_permits burst count = by (eqb burst 2)
  where
    by : (b : Bool) → bad b count ≡ false → permitted (cond b short long) count 1 ≡ true
    by true e = one_of (λ n. permitted short n 1 ≡ true) count 3 (6 ∷ []) (refl, (refl, tt)) (not-false _ e)
    by false e = one_of (λ n. permitted long n 1 ≡ true) count 4 (8 ∷ 16 ∷ []) (refl, (refl, (refl, tt))) (not-false _ e)

-- every count but 4 permits the users from 1 to it
module _ (k : ℕ) where
  abbrev Range : Code → ℕ → Type 0
  Range c count = permitted c count k ≡ (leb 1 k && leb k count)

  pub one_to_count : (burst count : ℕ) → bad_count burst count ≡ false → (count ≡ 4 → ⊥) → Range (code_of burst) count
  unfolding bad_count code_of permitted
  one_to_count burst count e other = by (eqb burst 2) e
    where
      by : (b : Bool) → bad b count ≡ false → Range (cond b short long) count
      by true e = one_of (Range short) count 3 (6 ∷ []) (simp or_none, (simp or_none, tt)) (not-false _ e)
      by false e =
          one_of (λ n. (n ≡ 4 → ⊥) → Range long n) count 4 (8 ∷ 16 ∷ [])
          (λ not-4. absurd (not-4 refl), (λ not-4. simp or_none, (λ not-4. simp or_none, tt))) (not-false _ e) other

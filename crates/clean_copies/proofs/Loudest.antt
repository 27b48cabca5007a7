-- Who is heard, over any users that may be and however well each is heard: "the user with the greatest sum of squares .., the lowest user on a tie, nobody if all
-- sums are zero". For the reader of `loudest`, and cited by proofs/CleanCopies.antt. Assumes nothing.
use mathlib.Core.Path.{◌≡◌, refl, sym, ap, ◌∙◌}
use mathlib.Core.Bool.{Bool, true, false, cond, ◌&&◌}
use mathlib.Core.Logic.{◌⊎◌, inl, inr, ⊎_elim, ◌↔◌}
use Prim.Native.Nat.{ℕ, zero, suc, ◌<◌, ◌≤◌}
use native.Mathlib.Nat.{eq-or-lt_of_le, eq-zero-or-pos, le_of_suc-le-suc}
use native.Mathlib.Omega.{arith}
use lib.Dec.{ltb}
use borrow.Author.Tests.{ltb-true, ltb-false}
use Rattle.laws.proofs.Bools.{true_false}
use Rattle.laws.proofs.Cases.{equal_or_not}
use Rattle.hearing.specs.Hearing.{loudest}

-- 0 stands for nobody, who is not heard
module _ (may : ℕ → Bool) (heard : ℕ → ℕ) (silent : heard 0 ≡ 0) where
  abbrev best : ℕ → ℕ
  best k = loudest may heard k

  -- one user more: heard better and allowed, it takes the place of the best so far; else that one stays
  step : (k : ℕ) (P : ℕ → Type 0) → (may (suc k) ≡ true → heard (best k) < heard (suc k) → P (suc k))
      → ((may (suc k) ≡ true → heard (suc k) ≤ heard (best k)) → P (best k)) → P (best (suc k))
  unfolding loudest
  step k P f g = by (may (suc k)) (ltb (heard (best k)) (heard (suc k))) refl refl
    where
      by : (a b : Bool) → may (suc k) ≡ a → ltb (heard (best k)) (heard (suc k)) ≡ b → P (cond (a && b) (suc k) (best k))
      by true true p q = f p (ltb-true _ _ q)
      by true false p q = g (λ t. ltb-false _ _ q)
      by false b p q = g (λ t. true_false (sym t ∙ p))

  none : best 0 ≡ 0
  unfolding loudest
  none = refl

  -- it is none above those that were asked
  pub within : (k : ℕ) → best k ≤ k
  within zero = omega (arith, none)
  within (suc k) = step k (λ b. b ≤ suc k) (λ m h. omega arith) (λ h. omega (arith, within k))

  -- and permitted, or nobody
  pub allowed : (k : ℕ) → (best k ≡ 0) ⊎ (may (best k) ≡ true)
  allowed zero = inl none
  allowed (suc k) = step k (λ b. (b ≡ 0) ⊎ (may b ≡ true)) (λ m h. inr m) (λ h. allowed k)

  -- "the user with the greatest sum": no permitted user is heard better
  pub greatest : (k l : ℕ) → l ≤ k → may l ≡ true → heard l ≤ heard (best k)
  greatest zero l h m = let z : l ≡ 0 = omega arith in omega (arith, ap heard z, silent)
  greatest (suc k) l h m =
      ⊎_elim
      (λ (e : l ≡ suc k).
      let same = ap heard e in
      step k (λ b. heard l ≤ heard b) (λ n g. omega arith) (λ g. omega (arith, g (ap may (sym e) ∙ m))))
      (λ (s : l < suc k).
      let r = greatest k l (le_of_suc-le-suc s) m in
      step k (λ b. heard l ≤ heard b) (λ n g. omega arith) (λ g. r))
      (eq-or-lt_of_le h)

  -- whoever is named is heard
  pub some : (k : ℕ) → 1 ≤ best k → 1 ≤ heard (best k)
  some zero h = absurd (omega (arith, none))
  some (suc k) h = let r = some k in step k (λ b. 1 ≤ b → 1 ≤ heard b) (λ m g i. omega arith) (λ g. r) h

  -- "the lowest user on a tie": each permitted user below is heard less
  pub lowest : (k l : ℕ) → l < best k → may l ≡ true → heard l < heard (best k)
  lowest zero l h m = absurd (omega (arith, none))
  lowest (suc k) l h m =
      let r = lowest k l in
      step k (λ b. l < b → heard l < heard b) (λ n g i. omega (arith, greatest k l (le_of_suc-le-suc i) m)) (λ g i. r i m) h

  -- "nobody if all sums are zero", and only then
  pub nobody : (k : ℕ) → (best k ≡ 0) ↔ ((l : ℕ) → l ≤ k → may l ≡ true → heard l ≡ 0)
  nobody k = (
    λ z l h m. omega (arith, greatest k l h m, ap heard z, silent),
    λ all. ⊎_elim (λ (z : best k ≡ 0). z) (λ (m : may (best k) ≡ true). quiet (all (best k) (within k) m)) (allowed k),
  )
    where
      quiet : heard (best k) ≡ 0 → best k ≡ 0
      quiet z = ⊎_elim (λ (e : best k ≡ 0). e) (λ (s : 0 < best k). absurd (omega (arith, some k s))) (eq-zero-or-pos (best k))

  -- so a permitted user that is heard, and better than every other, is named
  pub heard_best : (k u : ℕ) → u ≤ k → may u ≡ true → 1 ≤ heard u
      → ((l : ℕ) → l ≤ k → may l ≡ true → (l ≡ u → ⊥) → heard l < heard u) → best k ≡ u
  heard_best k u h m loud others =
      ⊎_elim
      (λ (z : best k ≡ 0). absurd (omega (arith, greatest k u h m, ap heard z, silent)))
      (λ (n : may (best k) ≡ true).
      ⊎_elim
      (λ (e : best k ≡ u). e)
      (λ (d : best k ≡ u → ⊥). absurd (omega (arith, greatest k u h m, others (best k) (within k) n d)))
      (equal_or_not (best k) u))
      (allowed k)

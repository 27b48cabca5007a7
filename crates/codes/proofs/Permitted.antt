-- A permitted user and its count: the three settings of Annex A, taken apart. Cited by the crates conditions, midambles and facts.
-- Assumes nothing.
use mathlib.Core.Path.{◌≡◌, refl}
use mathlib.Core.Bool.{true, ◌&&◌}
use mathlib.Core.Logic.{◌⊎◌, inl, inr, ⊎_elim}
use Prim.Native.Nat.{ℕ, ◌*◌, ◌%◌, ◌≤◌}
use native.Mathlib.Omega.{arith}
use lib.Dec.{eqb, leb}
use borrow.Author.Tests.{leb-true, eqb-true, le-leb, eq-eqb}
use Rattle.laws.proofs.Bools.{and_true}
use Rattle.laws.proofs.Cases.{either}
use Rattle.codes.specs.declared.Code.{Code}
use Rattle.codes.specs.Codes.{permitted}

-- what a setting asks of its count, and of its users
abbrev pub All : Code → ℕ → ℕ → Type 0
All c count k = (count ≡ 2 * c.base) × (k ≤ 2 * c.base)

abbrev pub First : Code → ℕ → ℕ → Type 0
First c count k = (count ≡ c.base) × (k ≤ c.base)

abbrev pub Odd : Code → ℕ → ℕ → Type 0
Odd c count k = (2 * count ≡ c.base) × ((k ≤ c.base) × (k % 2 ≡ 1))

module _ (c : Code) (count k : ℕ) (e : permitted c count k ≡ true) where
  pub user_low : 1 ≤ k
  unfolding permitted
  user_low = leb-true 1 k (and_true (leb 1 k) _ e).0

  pub setting : All c count k ⊎ (First c count k ⊎ Odd c count k)
  unfolding permitted
  setting = ⊎_elim (λ s. ⊎_elim (λ t. inl (all t)) (λ t. inr (inl (first t))) (either _ _ s)) (λ t. inr (inr (odd t))) (either _ _ (and_true (leb 1 k) _ e).1)
    where
      all : (eqb count (2 * c.base) && leb k (2 * c.base)) ≡ true → All c count k
      all t = let h = and_true (eqb count (2 * c.base)) _ t in (eqb-true _ _ h.0, leb-true _ _ h.1)

      first : (eqb count c.base && leb k c.base) ≡ true → First c count k
      first t = let h = and_true (eqb count c.base) _ t in (eqb-true _ _ h.0, leb-true _ _ h.1)

      odd : (eqb (2 * count) c.base && (leb k c.base && eqb (k % 2) 1)) ≡ true → Odd c count k
      odd t =
          let h = and_true (eqb (2 * count) c.base) _ t in
          let u = and_true (leb k c.base) _ h.1 in
          (eqb-true _ _ h.0, (leb-true _ _ u.0, eqb-true _ _ u.1))

-- every user up to 2K' is permitted under 2K'
pub permitted_all : (c : Code) (k : ℕ) → 1 ≤ k → k ≤ 2 * c.base → permitted c (2 * c.base) k ≡ true
unfolding permitted
permitted_all c k low high = rw (le-leb 1 k low, eq-eqb (2 * c.base) (2 * c.base) refl, le-leb k (2 * c.base) high) refl

-- two users of one count go by the same setting
pub one_setting : (c : Code) (count k l : ℕ) → 1 ≤ c.base → permitted c count k ≡ true → permitted c count l ≡ true
    → (All c count k × All c count l) ⊎ ((First c count k × First c count l) ⊎ (Odd c count k × Odd c count l))
one_setting c count k l some here there = by (setting c count k here) (setting c count l there)
  where
    by : All c count k ⊎ (First c count k ⊎ Odd c count k) → All c count l ⊎ (First c count l ⊎ Odd c count l)
        → (All c count k × All c count l) ⊎ ((First c count k × First c count l) ⊎ (Odd c count k × Odd c count l))
    by (inl a) (inl b) = inl (a, b)
    by (inl a) (inr (inl b)) = absurd (omega (arith, a.0, b.0))
    by (inl a) (inr (inr b)) = absurd (omega (arith, a.0, b.0))
    by (inr (inl a)) (inl b) = absurd (omega (arith, a.0, b.0))
    by (inr (inl a)) (inr (inl b)) = inr (inl (a, b))
    by (inr (inl a)) (inr (inr b)) = absurd (omega (arith, a.0, b.0))
    by (inr (inr a)) (inl b) = absurd (omega (arith, a.0, b.0))
    by (inr (inr a)) (inr (inl b)) = absurd (omega (arith, a.0, b.0))
    by (inr (inr a)) (inr (inr b)) = inr (inr (a, b))

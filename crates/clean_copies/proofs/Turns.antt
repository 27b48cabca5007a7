-- A chip at a level times the conjugate of another chip: the chip at that level whose power of j is the difference of theirs.
-- Cited by proofs/Sums.antt. Assumes nothing.
use mathlib.Core.Path.{◌≡◌, refl, ap, ◌∙◌}
use Prim.Native.Nat.{ℕ, ◌+◌, ◌-◌, ◌%◌, ◌<◌}
use native.Mathlib.Omega.{arith}
use lib.IntN.{ℤ, pos, negsuc, neg_ℤ, one, ◌*ℤ◌, +ℤ_idl, +ℤ_idr, *ℤ-one, *ℤ-zero, *ℤ-negsuc, neg_ℤ-neg_ℤ}
use Rattle.laws.proofs.Cases.{below}
use Rattle.signal_card.specs.SignalCard.{pair_of}
use Rattle.correlation.specs.Correlation.{times_conjugate}

times_one : (z : ℤ) → z *ℤ pos 1 ≡ z
unfolding one
times_one z = *ℤ-one z

times_minus : (z : ℤ) → z *ℤ negsuc 0 ≡ neg_ℤ z
times_minus z = *ℤ-negsuc z 0 ∙ ap neg_ℤ (times_one z)

abbrev pair : ℤ → ℤ → ℤ × ℤ
pair x y = (x, y)

-- x + jy times the conjugates of 1, j, -1 and -j
conjugates : (x y : ℤ)
    → (times_conjugate (x, y) (pair_of 1 0) ≡ pair x y)
    × (times_conjugate (x, y) (pair_of 1 1) ≡ pair y (neg_ℤ x))
    × (times_conjugate (x, y) (pair_of 1 2) ≡ pair (neg_ℤ x) (neg_ℤ y))
    × (times_conjugate (x, y) (pair_of 1 3) ≡ pair (neg_ℤ y) x)
unfolding times_conjugate pair_of
conjugates x y = (
  simp (times_one, *ℤ-zero, +ℤ_idr),
  simp (times_one, *ℤ-zero, +ℤ_idl),
  simp (times_minus, *ℤ-zero, +ℤ_idr),
  simp (times_minus, *ℤ-zero, +ℤ_idl, neg_ℤ-neg_ℤ),
)

-- and which chip that is, where x + jy is the chip of power p: for each of the four conjugates, each of the four chips
module _ (a p : ℕ) (power : p < 4) where
  abbrev x : ℕ → ℤ
  x p = (pair_of a p).0

  abbrev y : ℕ → ℤ
  y p = (pair_of a p).1

  real : pair (neg_ℤ (neg_ℤ (pos a))) (pos 0) ≡ pair (pos a) (pos 0)
  real = ap (λ (z : ℤ). pair z (pos 0)) (neg_ℤ-neg_ℤ (pos a))

  imaginary : pair (pos 0) (neg_ℤ (neg_ℤ (pos a))) ≡ pair (pos 0) (pos a)
  imaginary = ap (λ (z : ℤ). pair (pos 0) z) (neg_ℤ-neg_ℤ (pos a))

  pub product : (q : ℕ) → q < 4 → times_conjugate (pair_of a p) (pair_of 1 q) ≡ pair_of a ((p + 4 - q) % 4)
  unfolding pair_of
  product =
      let c = conjugates (x p) (y p) in
      let by-0 = below (λ p. pair (x p) (y p) ≡ pair_of a ((p + 4 - 0) % 4)) 4 ((((tt, refl), refl), refl), refl) p power in
      let by-1 = below (λ p. pair (y p) (neg_ℤ (x p)) ≡ pair_of a ((p + 4 - 1) % 4)) 4 ((((tt, refl), refl), imaginary), refl) p power in
      let by_2 = below (λ p. pair (neg_ℤ (x p)) (neg_ℤ (y p)) ≡ pair_of a ((p + 4 - 2) % 4)) 4 ((((tt, refl), refl), real), imaginary) p power in
      let by-3 = below (λ p. pair (neg_ℤ (y p)) (x p) ≡ pair_of a ((p + 4 - 3) % 4)) 4 ((((tt, refl), refl), refl), real) p power in
      below (λ q. times_conjugate (pair_of a p) (pair_of 1 q) ≡ pair_of a ((p + 4 - q) % 4)) 4 ((((tt, c.0 ∙ by-0), c.1 ∙ by-1), c.2 ∙ by_2), c.3 ∙ by-3)

-- of a chip and itself it is 0
pub no_difference : (p : ℕ) → (p + 4 - p) % 4 ≡ 0
no_difference p = omega arith

-- and from it and the one power, back to the other
pub other_power : (p q d : ℕ) → p < 4 → q < 4 → d < 4 → (p + 4 - q) % 4 ≡ d → q ≡ (p + (4 - d) % 4) % 4
other_power p q d hp hq hd e = omega arith

-- The four chips as the code makes them, one of them, and how large its parts are. Cited by the proofs of this crate and by the crates facts and clean_copies.
-- Assumes nothing.
use mathlib.Core.Path.{◌≡◌, refl, ap, ◌∙◌}
use mathlib.Core.Bool.{Bool, true, false, cond}
use mathlib.Core.List.{List, [], ◌∷◌}
use Prim.Native.Nat.{ℕ, zero, suc, ◌+◌, ◌-◌, ◌%◌, ◌≤◌, ◌<◌}
use native.Mathlib.Nat.{mod-lt}
use native.Mathlib.Omega.{arith}
use lib.Dec.{T, eqb, le→leb, lit≤}
use lib.IntN.{ℤ, pos, neg_ℤ, nat_abs}
use lib.Ieee.{Float, binary32, neg, of_int, of_bits, in_float}
use Rattle.code_text.specs.Rows.{bit_at}
use Rattle.elements.specs.Elements.{turned, basic, element}
use Rattle.floats.proofs.Whole.{whole_negated, zero_plain}
use Rattle.signal_card.specs.declared.ComplexChip.{ComplexChip}
use Rattle.signal_card.specs.SignalCard.{pair_of, f32_of, real_of, imaginary_of, floats_of}
use Rattle.signal_card.specs.Inside.{chip_in}

-- a level is a whole number that f32 holds
pub level_fits : (a : ℕ) → a ≤ 2047 → T (in_float binary32 (pos a))
unfolding in_float
level_fits a h = le→leb a 16777216 (omega arith)

-- the level, minus the level and zero, as the code makes them
abbrev four : Float → Float → Float → List Float
four x y z = x ∷ z ∷ z ∷ x ∷ y ∷ z ∷ z ∷ y ∷ []

pub four_powers : (a : ℕ) → 1 ≤ a → a ≤ 2047
    → four (of_int binary32 (pos a)) (neg (of_int binary32 (pos a))) (of_bits binary32 0) ≡ floats_of a (0 ∷ 1 ∷ 2 ∷ 3 ∷ [])
unfolding floats_of real_of imaginary_of f32_of pair_of
four_powers a low high =
    ap (λ (y : Float). four (of_int binary32 (pos a)) y (of_bits binary32 0)) (whole_negated binary32 a low (omega arith))
    ∙ ap (λ (z : Float). four (of_int binary32 (pos a)) (of_int binary32 (neg_ℤ (pos a))) z) zero_plain.0

-- chip p of the four is that of power p
pub of_four : (a p : ℕ) → p < 4 → ((chip_in (floats_of a (0 ∷ 1 ∷ 2 ∷ 3 ∷ [])) p).re ≡ real_of a p) × ((chip_in (floats_of a (0 ∷ 1 ∷ 2 ∷ 3 ∷ [])) p).im ≡ imaginary_of a p)
unfolding chip_in floats_of
of_four a zero h = (refl, refl)
of_four a (suc zero) h = (refl, refl)
of_four a (suc (suc zero)) h = (refl, refl)
of_four a (suc (suc (suc zero))) h = (refl, refl)
of_four a (suc (suc (suc (suc p)))) h = absurd (omega arith)

-- what is taken out of them
module _ (a p : ℕ) (row : List Float) (c : ComplexChip) (made : row ≡ floats_of a (0 ∷ 1 ∷ 2 ∷ 3 ∷ [])) (taken : c ≡ chip_in row p) (h : p < 4) where
  pub taken_real : c.re ≡ real_of a p
  taken_real = ap (λ (d : ComplexChip). d.re) taken ∙ ap (λ (l : List Float). (chip_in l p).re) made ∙ (of_four a p h).0

  pub taken_imaginary : c.im ≡ imaginary_of a p
  taken_imaginary = ap (λ (d : ComplexChip). d.im) taken ∙ ap (λ (l : List Float). (chip_in l p).im) made ∙ (of_four a p h).1

-- "its power of j, 0 to 3"
pub element_below : (P : ℕ) (row : List ℕ) (i : ℕ) → element P row i < 4
unfolding element basic turned
element_below P row i = by (eqb (bit_at row ((i - 1) % P + 1 - 1)) 1) ((i - 1) % P + 1)
  where
    by : (b : Bool) (k : ℕ) → cond b (k % 4) ((k + 2) % 4) < 4
    by true k = mod-lt k (lit≤ tt)
    by false k = mod-lt (k + 2) (lit≤ tt)

-- no part of a chip is larger than the level
minus_size : (a : ℕ) → nat_abs (neg_ℤ (pos a)) ≡ a
minus_size zero = refl
minus_size (suc a) = refl

pub parts_size : (a p : ℕ) → (nat_abs (pair_of a p).0 ≤ a) × (nat_abs (pair_of a p).1 ≤ a)
unfolding pair_of
parts_size a p = by (eqb p 0) (eqb p 1) (eqb p 2)
  where
    by : (b c d : Bool) → let q : ℤ × ℤ = cond b (pos a, pos 0) (cond c (pos 0, pos a) (cond d (neg_ℤ (pos a), pos 0) (pos 0, neg_ℤ (pos a)))) in
        (nat_abs q.0 ≤ a) × (nat_abs q.1 ≤ a)
    by true c d = (omega arith, omega arith)
    by false true d = (omega arith, omega arith)
    by false false true = (omega (arith, minus_size a), omega arith)
    by false false false = (omega arith, omega (arith, minus_size a))

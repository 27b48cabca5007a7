-- What is heard of samples that are a user's chips at a level: the sums of that user, and those of any other. Whole numbers only: how the floats of a row are read
-- stands in proofs/Rows.antt. Cited by proofs/CleanCopies.antt. Assumes nothing.
use mathlib.Core.Path.{◌≡◌, refl, ap, ◌∙◌}
use mathlib.Core.List.{List, []}
use Prim.Native.Nat.{ℕ, zero, suc, ◌+◌, ◌-◌, ◌*◌, ◌%◌, ◌<◌, ◌≤◌}
use native.Mathlib.Nat.{mod-lt, zero-mul}
use native.Mathlib.Omega.{arith}
use lib.Dec.{lit≤}
use lib.ListN.{get_or}
use lib.IntN.{ℤ, pos, nat_abs, ◌-ℤ◌}
use lib.Ieee.{Float}
use Rattle.codes.specs.Codes.{code_of, shift_of}
use Rattle.elements.specs.Elements.{rows_of}
use Rattle.midambles.specs.TrainingSequences.{chip_of}
use Rattle.signal_card.specs.SignalCard.{pair_of}
use Rattle.signal_card.proofs.Parts.{element_below}
use Rattle.sums.specs.Totals.{total}
use Rattle.sums.proofs.Totals.{total_same}
use Rattle.correlation.specs.Correlation.{sample_at, times_conjugate, product_at, real_sum, imaginary_sum}
use Rattle.hearing.specs.Hearing.{strength}
use Rattle.clean_copies.specs.CleanCopies.{PowerOfJ}
use Rattle.clean_copies.proofs.Squares.{level_below}
use Rattle.clean_copies.proofs.Totals.{total_steady}
use Rattle.clean_copies.proofs.Turns.{product, no_difference, other_power}
use Rattle.clean_copies.proofs.Counts.{how_many, all_of_them, four_counts, real_total, imaginary_total}

-- a chip is written as its power of j
chip_below : (cell burst k i : ℕ) → chip_of cell burst k i < 4
unfolding chip_of
chip_below cell burst k i = element_below (code_of burst).period (get_or (rows_of burst) cell []) (i + shift_of (code_of burst) k)

-- a user's strength is the sum of both squares
strength_is : (cell burst : ℕ) (row : List Float) (l : ℕ) → 1 ≤ l
    → strength cell burst row l
    ≡ nat_abs (real_sum cell burst row l) * nat_abs (real_sum cell burst row l) + nat_abs (imaginary_sum cell burst row l) * nat_abs (imaginary_sum cell burst row l)
unfolding strength
strength_is cell burst row zero h = absurd (omega arith)
strength_is cell burst row (suc l) h = refl

module _ (cell burst user level : ℕ) (row : List Float)
    (copy : (i : ℕ) → 1 ≤ i → i ≤ (code_of burst).length → sample_at row i ≡ pair_of level (chip_of cell burst user i)) where
  abbrev n : ℕ
  n = (code_of burst).length

  -- how far chip i is turned against user l's
  abbrev turn : ℕ → ℕ → ℕ
  turn l i = (chip_of cell burst user i + 4 - chip_of cell burst l i) % 4

  turn_below : (l i : ℕ) → turn l i < 4
  turn_below l i = mod-lt (chip_of cell burst user i + 4 - chip_of cell burst l i) (lit≤ tt)

  product_is : (l i : ℕ) → 1 ≤ i → i ≤ n → product_at cell burst row l i ≡ pair_of level (turn l i)
  unfolding product_at
  product_is l i low high =
      ap (λ (s : ℤ × ℤ). times_conjugate s (pair_of 1 (chip_of cell burst l i))) (copy i low high)
      ∙ product level (chip_of cell burst user i) (chip_below cell burst user i) (chip_of cell burst l i) (chip_below cell burst l i)

  real_is : (l : ℕ) → real_sum cell burst row l ≡ total (λ (i : ℕ). (pair_of level (turn l i)).0) n
  unfolding real_sum
  real_is l = total_same _ _ n (λ i low high. ap (λ (z : ℤ × ℤ). z.0) (product_is l i low high))

  imaginary_is : (l : ℕ) → imaginary_sum cell burst row l ≡ total (λ (i : ℕ). (pair_of level (turn l i)).1) n
  unfolding imaginary_sum
  imaginary_is l = total_same _ _ n (λ i low high. ap (λ (z : ℤ × ℤ). z.1) (product_is l i low high))

  -- ---- the user's own: every product is the level

  own_product : (i : ℕ) → pair_of level (turn user i) ≡ (pos level, pos 0)
  unfolding pair_of
  own_product i = ap (pair_of level) (no_difference (chip_of cell burst user i))

  pub own_real : real_sum cell burst row user ≡ pos (level * n)
  own_real = real_is user ∙ total_same _ _ n (λ i low high. ap (λ (z : ℤ × ℤ). z.0) (own_product i)) ∙ total_steady level n

  pub own_imaginary : imaginary_sum cell burst row user ≡ pos 0
  own_imaginary = imaginary_is user ∙ total_same _ _ n (λ i low high. ap (λ (z : ℤ × ℤ). z.1) (own_product i)) ∙ total_steady 0 n ∙ ap pos (zero-mul n)

  pub own_strength : 1 ≤ user → strength cell burst row user ≡ level * n * (level * n)
  own_strength h = strength_is cell burst row user h ∙ rw (own_real, own_imaginary) (omega arith)

  -- ---- any user's: the products are the level turned by 0, 1, 2 or 3, at so many chips each

  abbrev many : ℕ → ℕ → ℕ
  many l p = how_many (turn l) p n

  pub sums_at : (l : ℕ)
      → (real_sum cell burst row l ≡ pos (level * many l 0) -ℤ pos (level * many l 2))
      × (imaginary_sum cell burst row l ≡ pos (level * many l 1) -ℤ pos (level * many l 3))
      × (many l 0 + many l 1 + many l 2 + many l 3 ≡ n)
  sums_at l = (
    real_is l ∙ real_total (turn l) (turn_below l) level n,
    imaginary_is l ∙ imaginary_total (turn l) (turn_below l) level n,
    four_counts (turn l) (turn_below l) n,
  )

  -- so another user's strength is below the user's own, unless its midamble is a power of j times this one
  pub other_strength : (l : ℕ) → 1 ≤ l → 1 ≤ level → (PowerOfJ cell burst user l → ⊥) → strength cell burst row l < level * n * (level * n)
  other_strength l h some none =
      rw (strength_is cell burst row l h, (sums_at l).0, (sums_at l).1)
      (level_below level (many l 0) (many l 1) (many l 2) (many l 3) n some (sums_at l).2 (not 0 (lit≤ tt)) (not 1 (lit≤ tt)) (not 2 (lit≤ tt)) (not 3 (lit≤ tt)))
    where
      not : (p : ℕ) → p < 4 → many l p ≡ n → ⊥
      not p small e =
          none
          (record {
            power = (4 - p) % 4;
            below = mod-lt (4 - p) (lit≤ tt);
            each = λ i low high.
                other_power (chip_of cell burst user i) (chip_of cell burst l i) p (chip_below cell burst user i) (chip_below cell burst l i) small
                (all_of_them (turn l) p n e i low high);
          })

-- Document 02, C-18: "at 512 chips each sum is below 2 to the power 24", so the two floats of an answer are those whole numbers, nothing rounded, and never minus zero. No function's proof
-- cites it: it is for the reader. Assumes nothing.
use mathlib.Core.Path.{◌≡◌, subst, sym}
use mathlib.Core.Bool.{true, false}
use mathlib.Core.List.{List, []}
use Prim.Native.Nat.{ℕ, ◌+◌, ◌-◌, ◌*◌, ◌≤◌, ◌<◌}
use native.Mathlib.Omega.{arith}
use lib.ListN.{length, get_or}
use lib.IntN.{ℤ, nat_abs}
use lib.Ieee.{Float, nan, fin, binary32}
use lib.Ieee.Exact.{HasValue}
use Rattle.sums.proofs.Totals.{total_size}
use Rattle.floats.specs.Whole.{is_minus}
use Rattle.floats.proofs.Whole.{whole_exact, never_minus_zero}
use Rattle.codes.specs.Codes.{code_of, shift_of}
use Rattle.codes.proofs.Numbers.{length_high}
use Rattle.elements.specs.Elements.{rows_of}
use Rattle.midambles.specs.TrainingSequences.{chip_of}
use Rattle.signal_card.specs.SignalCard.{f32_of}
use Rattle.signal_card.proofs.Parts.{element_below}
use Rattle.samples.specs.Samples.{sample_of, bad_samples}
use Rattle.samples.proofs.Reading.{sample_size}
use Rattle.samples.proofs.Front.{each_sample}
use Rattle.correlation.specs.Correlation.{sample_at, product_at, real_sum, imaginary_sum}
use Rattle.correlation.proofs.Turning.{turned_size}
use Rattle.correlation.proofs.Meaning.{conjugate}

-- a row whose samples are good, as long as is read
module _ (cell burst user : ℕ) (row : List Float) (good : bad_samples (2 * (code_of burst).length) row ≡ false) (long : 2 * (code_of burst).length ≤ length row) where
  part_small : (k : ℕ) → k < 2 * (code_of burst).length → nat_abs (sample_of (get_or row k nan)) ≤ 2047
  part_small k h = sample_size (get_or row k nan) (each_sample row (2 * (code_of burst).length) k good long h)

  product_small : (i : ℕ) → 1 ≤ i → i ≤ (code_of burst).length → (nat_abs (product_at cell burst row user i).0 ≤ 2047) × (nat_abs (product_at cell burst row user i).1 ≤ 2047)
  unfolding product_at sample_at chip_of
  product_small i low high =
      let power = chip_of cell burst user i in
      let below : power < 4 = element_below (code_of burst).period (get_or (rows_of burst) cell []) (i + shift_of (code_of burst) user) in
      subst (λ (z : ℤ × ℤ). (nat_abs z.0 ≤ 2047) × (nat_abs z.1 ≤ 2047)) (sym (conjugate power (sample_at row i) below))
      (turned_size power 2047 (sample_at row i) (part_small (2 * i - 2) (omega arith)) (part_small (2 * i - 1) (omega arith)))

  pub sums_small : (nat_abs (real_sum cell burst row user) ≤ 512 * 2047) × (nat_abs (imaginary_sum cell burst row user) ≤ 512 * 2047)
  unfolding real_sum imaginary_sum
  sums_small =
      let few = length_high burst in (
        omega (arith, total_size (λ (i : ℕ). (product_at cell burst row user i).0) 2047 (code_of burst).length (λ i low high. (product_small i low high).0)),
        omega (arith, total_size (λ (i : ℕ). (product_at cell burst row user i).1) 2047 (code_of burst).length (λ i low high. (product_small i low high).1)),
      )

  -- each float of an answer is its whole number
  pub sums_exact : HasValue (f32_of (real_sum cell burst row user)) (is_minus (real_sum cell burst row user)) (nat_abs (real_sum cell burst row user)) 1
      × HasValue (f32_of (imaginary_sum cell burst row user)) (is_minus (imaginary_sum cell burst row user)) (nat_abs (imaginary_sum cell burst row user)) 1
  unfolding f32_of
  sums_exact = (whole_exact binary32 (real_sum cell burst row user) (omega (arith, sums_small.0)), whole_exact binary32 (imaginary_sum cell burst row user) (omega (arith, sums_small.1)))

  -- "Minus zero .. is never given"
  pub no_minus_zero : (e : ℤ) → (f32_of (real_sum cell burst row user) ≡ fin true 0 e → ⊥) × (f32_of (imaginary_sum cell burst row user) ≡ fin true 0 e → ⊥)
  unfolding f32_of
  no_minus_zero e = (never_minus_zero binary32 (real_sum cell burst row user) e (omega (arith, sums_small.0)), never_minus_zero binary32 (imaginary_sum cell burst row user) e (omega (arith, sums_small.1)))

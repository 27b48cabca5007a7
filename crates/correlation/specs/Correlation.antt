-- Document 02, C-18, "Who is that on the air?": a user's two sums. Whole numbers only: of floats nothing here knows but how a sample is read, and nothing of the order in which
-- code adds.
-- Over document 01's chip (crate midambles) and C-12's pair of it (crate signal_card). Cited by the crates hearing and clean_copies. Assumes nothing.
use Rattle.std.specs.Prelude.{List, ℕ, ◌-◌, ◌*◌, get_or, ℤ, ◌+ℤ◌, ◌-ℤ◌, ◌*ℤ◌, Float}
use Rattle.std.specs.Float.{nan}
use Rattle.sums.specs.Totals.{total}
use Rattle.codes.specs.Codes.{code_of}
use Rattle.midambles.specs.TrainingSequences.{chip_of}
use Rattle.signal_card.specs.SignalCard.{pair_of}
use Rattle.samples.specs.Samples.{sample_of}

-- "received f32 pairs, aligned with the midamble": the pair at chip i, from 1, real part and imaginary part
unfoldable pub sample_at : List Float → ℕ → ℤ × ℤ
sample_at row i = (sample_of (get_or row (2 * i - 2) nan), sample_of (get_or row (2 * i - 1) nan))

-- "multiply each by the conjugate of the user's chip": (x + jy)(c - jd)
unfoldable pub times_conjugate : ℤ × ℤ → ℤ × ℤ → ℤ × ℤ
times_conjugate s c = (s.0 *ℤ c.0 +ℤ s.1 *ℤ c.1, s.1 *ℤ c.0 -ℤ s.0 *ℤ c.1)

-- the product at chip i; a chip is its pair at level 1
unfoldable pub product_at : ℕ → ℕ → List Float → ℕ → ℕ → ℤ × ℤ
product_at cell burst row user i = times_conjugate (sample_at row i) (pair_of 1 (chip_of cell burst user i))

-- "and add": the real and the imaginary sum, over the chips of a midamble
unfoldable pub real_sum : ℕ → ℕ → List Float → ℕ → ℤ
real_sum cell burst row user = total (λ (i : ℕ). (product_at cell burst row user i).0) (code_of burst).length

unfoldable pub imaginary_sum : ℕ → ℕ → List Float → ℕ → ℤ
imaginary_sum cell burst row user = total (λ (i : ℕ). (product_at cell burst row user i).1) (code_of burst).length

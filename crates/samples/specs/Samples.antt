-- Document 02, C-18: what a received float is read as. Cited by the promises of this crate, and by the crates correlation, hearing and clean_copies.
-- Assumes nothing.
use Rattle.std.specs.Prelude.{Bool, false, not, cond, ◌&&◌, List, ℕ, ◌*◌, ◌/◌, ◌%◌, eqb, leb, take, ℤ, pos, neg_ℤ, Float}
use Rattle.std.specs.Float.{nan, inf, fin}
use Rattle.std.specs.Float.Ieee.{up, down}
use Rattle.laws.specs.Lists.{every}

-- "Samples are whole numbers from -2047 to 2047": a number, finite, with no fraction and at most so large
unfoldable pub is_sample : Float → Bool
is_sample nan = false
is_sample (inf minus) = false
is_sample (fin minus m e) = eqb (m * up e % down e) 0 && leb (m * up e / down e) 2047

-- the whole number that a sample is; "Minus zero reads as zero"
unfoldable pub sample_of : Float → ℤ
sample_of nan = pos 0
sample_of (inf minus) = pos 0
sample_of (fin minus m e) = let n = pos (m * up e / down e) in cond minus (neg_ℤ n) n

-- 24: "for a sample outside the rule", of the floats that are read, the first n of them
unfoldable pub bad_samples : ℕ → List Float → Bool
bad_samples n row = not (every is_sample (take n row))

-- What the laws on whole numbers as floats speak of. Cited by proofs/ and by the crates samples, correlation, hearing and facts. Assumes nothing.
use Rattle.std.specs.Prelude.{◌≡◌, Bool, true, false, ℕ, ℤ, pos, negsuc, neg_ℤ, Float}
use Rattle.std.specs.Float.Ieee.Exact.{HasValue}

-- whether a whole number has a minus sign; zero has none
abbrev pub is_minus : ℤ → Bool
is_minus (pos n) = false
is_minus (negsuc n) = true

-- a size with a sign; minus zero is zero
abbrev pub signed : Bool → ℕ → ℤ
signed false n = pos n
signed true n = neg_ℤ (pos n)

-- the float x is the whole number z, minus zero being zero
pub record IsWhole (x : Float) (z : ℤ) : Type 0 where
  pub minus : Bool
  pub size : ℕ
  pub value : HasValue x minus size 1
  pub is : z ≡ signed minus size

-- A sum of whole numbers, as the definition of a correlation has it. Cited by the crates correlation and clean_copies.
-- Assumes nothing.
use Rattle.std.specs.Prelude.{ℕ, zero, suc, ℤ, pos, ◌+ℤ◌}

-- f 1 + f 2 + .. + f n
unfoldable pub total : (ℕ → ℤ) → ℕ → ℤ
total f zero = pos 0
total f (suc n) = total f n +ℤ f (suc n)

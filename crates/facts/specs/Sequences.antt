-- Document 01, "Training sequences": which element a chip is, and the last one that is read. Cited
-- by proofs/Sequences.antt. Assumes nothing.
use Rattle.std.specs.Prelude.{cond, [], ℕ, ◌+◌, eqb, get_or}
use Rattle.codes.specs.Codes.{code_of, shift_of}
use Rattle.elements.specs.Elements.{rows_of, element}

-- "Chip i of user k is element i + shift.": the number of that element
unfoldable pub element_read : ℕ → ℕ → ℕ → ℕ
element_read burst k i = i + shift_of (code_of burst) k

-- element n of a cell's row
unfoldable pub element_of : ℕ → ℕ → ℕ → ℕ
element_of cell burst n = element (code_of burst).period (get_or (rows_of burst) cell []) n

-- "The last element read is 939 (long) or 416 (short)."
unfoldable pub last_element : ℕ → ℕ
last_element burst = cond (eqb burst 2) 416 939

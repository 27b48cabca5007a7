-- A table read row by row, a refusal that was given going on to the next row: the laws on it (proofs/First.antt) say that this gives its first. No reader of a public promise has to believe it.
-- Assumes nothing.
use Rattle.std.specs.Prelude.{Bool, cond, [], ◌∷◌, ℕ, eqb}
use Rattle.refusals.specs.Refusals.{Refusals}

-- the refusal given so far, or the next one where its condition holds
unfoldable pub or_refused : ℕ → ℕ → Bool → ℕ
or_refused given number holds = cond (eqb given 0) (cond holds number 0) given

-- a table read row by row
unfoldable pub row_by_row : ℕ → Refusals → ℕ
row_by_row given [] = given
row_by_row given (row ∷ rest) = row_by_row (or_refused given row.0 row.1) rest

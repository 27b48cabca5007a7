-- Document 01, "Training sequences": the elements of a row, defined once over the period. Cited by the promises of this crate, by midambles, blocks and signal_card.
-- Assumes nothing.
use Rattle.std.specs.Prelude.{cond, List, ℕ, ◌+◌, ◌-◌, ◌%◌, eqb}
use Rattle.code_text.specs.Rows.{long_rows, short_rows, bit_at}

-- "Long rows serve types 1 and 3, short rows type 2."
unfoldable pub rows_of : ℕ → List (List ℕ)
rows_of burst = cond (eqb burst 2) short_rows long_rows

-- "A chip is written as its power of j, 0 to 3 ..: (i mod 4) for +1, (i + 2) mod 4 for -1." Bit 1 stands for +1.
unfoldable pub turned : ℕ → ℕ → ℕ
turned i bit = cond (eqb bit 1) (i % 4) ((i + 2) % 4)

-- "Complex element i (counted from 1) is j to the power i, times the row's element": i from 1 to P
unfoldable pub basic : List ℕ → ℕ → ℕ
basic row i = turned i (bit_at row (i - 1))

-- "beyond P the sequence repeats"
unfoldable pub element : ℕ → List ℕ → ℕ → ℕ
element P row i = basic row ((i - 1) % P + 1)

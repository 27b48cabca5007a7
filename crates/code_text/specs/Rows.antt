-- Document 01, "Training sequences": the basic codes' rows, their digits and their elements. Cited by the tables' promises (crate code_rows) and by the crate elements.
-- Assumes nothing.
use Rattle.std.specs.Prelude.{cond, List, [], ◌∷◌, ◌++◌, map, ℕ, zero, suc, ◌+◌, ◌-◌, ◌*◌, ◌/◌, ◌%◌, ◌^◌, ltb, get_or, drop}
use Prim.Native.String.{String, [] as nil, ◌∷◌ as ◌then◌}
use Prim.Native.Char.{code}
use Rattle.code_text.specs.LongText.{long_text}
use Rattle.code_text.specs.ShortText.{short_text}

-- what a hexadecimal digit stands for, by its character's code: 0 to 9, A to F
abbrev pub digit : ℕ → ℕ
digit c = cond (ltb c 58) (c - 48) (c - 55)

-- the digits of a printed row, in order
abbrev pub digits : String → List ℕ
digits nil = []
digits (c then rest) = digit (code c) ∷ digits rest

-- "128 rows of 114 hexadecimal digits and 128 rows of 48. Row n belongs to cell parameter n."
unfoldable pub long_rows : List (List ℕ)
unfolding long_text
long_rows = map (λ row. digits row) long_text

unfoldable pub short_rows : List (List ℕ)
unfolding short_text
short_rows = map (λ row. digits row) short_text

-- element p of a row, counted from 0: "Each digit is four elements, highest bit first, 1 for +1 and 0 for -1."
unfoldable pub bit_at : List ℕ → ℕ → ℕ
bit_at row p = get_or row (p / 4) 0 / 2 ^ (3 - p % 4) % 2

-- a row as w bytes: two digits a byte, the first of them high
abbrev pub packed : ℕ → List ℕ → List ℕ
packed zero row = []
packed (suc w) row = (get_or row 0 0 * 16 + get_or row 1 0) ∷ packed w (drop 2 row)

-- all rows, row after row, w bytes each
abbrev pub table : ℕ → List (List ℕ) → List ℕ
table w [] = []
table w (row ∷ rest) = packed w row ++ table w rest

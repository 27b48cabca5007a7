-- What the private functions of this crate promise each other. No reader of a public promise has to believe it.
-- Assumes nothing.
use Rattle.std.specs.Prelude.{List, [], ◌∷◌, ◌++◌, ℕ, zero, suc, ◌+◌, ◌-◌, ◌*◌, ◌/◌, ◌%◌, ◌^◌, ◌≤◌, length, drop}
use Rattle.laws.specs.Runs.{run}
use Rattle.elements.specs.Elements.{turned, element}

-- the digits of a row's bytes: two a byte, the first of them high
unfoldable pub digits_in : List ℕ → List ℕ
digits_in [] = []
digits_in (b ∷ rest) = b / 16 % 16 ∷ b % 16 ∷ digits_in rest

-- element i of a row of bytes, eight elements a byte
unfoldable pub element_in : List ℕ → ℕ → ℕ
element_in row i = element (8 * length row) (digits_in row) i

-- memory that n elements were written into, the first of them element by + 1: behind them it is as it was
abbrev pub elements_after : List ℕ → ℕ → ℕ → List ℕ → List ℕ
elements_after row by n out = run (λ (i : ℕ). element_in row (i + by)) n ++ drop n out

-- element e of a digit, 1 to 4, as its power of j: the highest bit first
unfoldable pub power_in : ℕ → ℕ → ℕ
power_in d e = turned e (d / 2 ^ (4 - e) % 2)

-- the four elements of a digit
unfoldable pub four_of : ℕ → List ℕ
four_of d = run (λ (e : ℕ). power_in d e) 4

-- those of each digit below n
unfoldable pub fours_of : ℕ → List (List ℕ)
fours_of zero = []
fours_of (suc n) = fours_of n ++ (four_of n ∷ [])

-- a row of bytes that can be read: at least one byte, and at most 57, as the long rows have
pub record Row (row : List ℕ) : Type 0 where
  pub some : 1 ≤ length row
  pub few : length row ≤ 57

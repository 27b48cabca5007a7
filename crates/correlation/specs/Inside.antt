-- What the functions of this crate promise each other and the crate hearing. No reader of a public promise has to believe it.
-- Assumes nothing.
use Rattle.std.specs.Prelude.{◌≡◌, cond, List, [], ℕ, zero, suc, ◌+◌, ◌-◌, ◌%◌, ◌≤◌, ◌<◌, T, eqb, get_or, ℤ, pos, negsuc, neg_ℤ, nat_abs, ◌*ℤ◌, Float}
use Rattle.std.specs.Float.{nan, binary32}
use Rattle.std.specs.Float.Ieee.{sub, of_int}
use Rattle.sums.specs.Totals.{total}
use Rattle.codes.specs.Codes.{code_of}
use Rattle.code_text.specs.Rows.{bit_at}
use Rattle.elements.specs.Elements.{rows_of}
use Rattle.samples.specs.Samples.{is_sample, sample_of}
use Rattle.correlation.specs.declared.Sums.{Sums}
use Rattle.correlation.specs.Correlation.{sample_at}

-- a number times -j, and times -j to the power i
abbrev pub back : ℤ × ℤ → ℤ × ℤ
back z = (z.1, neg_ℤ z.0)

unfoldable pub turned_back : ℕ → ℤ × ℤ → ℤ × ℤ
turned_back zero z = z
turned_back (suc i) z = back (turned_back i z)

-- the row's element i as a sign, beyond the period repeated
unfoldable pub sign_at : ℕ → ℕ → ℕ → ℤ
sign_at cell burst i = cond (eqb (bit_at (get_or (rows_of burst) cell []) ((i - 1) % (code_of burst).period)) 1) (pos 1) (negsuc 0)

-- the first n floats are samples; and they are samples of at most 1 in size, as signs are
pub record Samples (z : List Float) (n : ℕ) : Type 0 where
  pub all : (m : ℕ) → m < n → T (is_sample (get_or z m nan))

pub record Signs (b : List Float) (n : ℕ) : Type 0 where
  pub all : (m : ℕ) → m < n → T (is_sample (get_or b m nan)) × (nat_abs (sample_of (get_or b m nan)) ≤ 1)

-- the first n floats are whole numbers of at most `most` in size, none of them a minus zero
pub record Wholes (z : List Float) (n most : ℕ) : Type 0 where
  pub all : (m : ℕ) → m < n → (get_or z m nan ≡ of_int binary32 (sample_of (get_or z m nan))) × (nat_abs (sample_of (get_or z m nan)) ≤ most)

-- a float times the one of another row that stands `by` places further on; and the sum of n of these
abbrev pub term : List Float → List Float → ℕ → ℕ → ℤ
term z b by i = sample_of (get_or z (i - 1) nan) *ℤ sample_of (get_or b (by + (i - 1)) nan)

abbrev pub dot_of : List Float → List Float → ℕ → ℕ → ℤ
dot_of z b by n = total (term z b by) n

-- two sums as floats
unfoldable pub sums_of : ℤ × ℤ → Sums
sums_of z = record { re = of_int binary32 z.0; im = of_int binary32 z.1 }

-- two rows that hold the samples of a row, each turned back as far as it stands
pub record Turned (row : List Float) (n : ℕ) (re im : List Float) : Type 0 where
  pub real : (m : ℕ) → m < n → T (is_sample (get_or re m nan)) × (sample_of (get_or re m nan) ≡ (turned_back (m + 1) (sample_at row (m + 1))).0)
  pub imaginary : (m : ℕ) → m < n → T (is_sample (get_or im m nan)) × (sample_of (get_or im m nan) ≡ (turned_back (m + 1) (sample_at row (m + 1))).1)

-- the sign of an element of power p, where its place leaves the remainder r by 4: 1 less how far p is past r, which is 0 or 2
abbrev pub sign_from : ℕ → ℕ → Float
sign_from r p = sub binary32 (of_int binary32 (pos 1)) (of_int binary32 (pos ((p + 4 - r) % 4)))

-- as many signs of a row as the users' midambles read: none is shifted as far as a period
abbrev pub reach : ℕ → ℕ
reach burst = (code_of burst).period + (code_of burst).length

-- a row that holds the signs of a cell's row, n of them
pub record HoldsSigns (cell burst n : ℕ) (b : List Float) : Type 0 where
  pub sign : (m : ℕ) → m < n → get_or b m nan ≡ of_int binary32 (sign_at cell burst (m + 1))

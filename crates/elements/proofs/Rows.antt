-- A row of a table is a row of the basic codes, for every width of a row, then for each burst type. Cited by the proofs of this crate.
-- Assumes nothing.
use mathlib.Core.Path.{◌≡◌, sym, ap, ◌∙◌}
use mathlib.Core.List.{List, [], ◌++◌}
use Prim.Native.Nat.{ℕ, suc, ◌+◌, ◌*◌, ◌<◌, ◌≤◌}
use native.Mathlib.Nat.{suc-mul, mul-le-mul_right}
use native.Mathlib.Omega.{arith}
use lib.Dec.{lit≤}
use lib.ListN.{length, get_or, take, drop}
use borrow.Author.Tests.{eq-eqb, ne_eqb}
use Rattle.laws.specs.Runs.{run}
use Rattle.laws.proofs.Runs.{run_same}
use Rattle.code_text.specs.Rows.{table, packed, long_rows, short_rows}
use Rattle.code_text.proofs.Proper.{long_proper, short_proper}
use Rattle.code_text.proofs.Reading.{row_packed, packed_length}
use Rattle.elements.specs.Elements.{rows_of, element}
use Rattle.codes.specs.Codes.{code_of}
use Rattle.elements.specs.Inside.{Row, digits_in, element_in, elements_after}
use Rattle.elements.proofs.Digits.{digits_back}

-- row n of a table of m bytes lies in the table
pub row_inside : (m w n : ℕ) → m ≡ 128 * w → n < 128 → n * w + w ≤ m
row_inside m w n e h =
    let k : suc n * w ≤ 128 * w = mul-le-mul_right w h in
    omega (arith, suc-mul n w)

-- a table t of rows of w bytes holds the rows of a burst type: 128 of them, each of 2w digits
pub record Holds (burst w : ℕ) (t : List ℕ) : Type 0 where
  pub period : (code_of burst).period ≡ 8 * w
  pub rows : t ≡ table w (rows_of burst)
  pub low : 1 ≤ w
  pub high : w ≤ 57
  pub count : length (rows_of burst) ≡ 128
  pub digits : (n : ℕ) → n < 128 → length (get_or (rows_of burst) n []) ≡ 2 * w
  pub small : (n k : ℕ) → n < 128 → get_or (get_or (rows_of burst) n []) k 0 < 16

pub short_holds : (burst : ℕ) (t : List ℕ) → burst ≡ 2 → t ≡ table 24 short_rows → Holds burst 24 t
unfolding code_of rows_of
short_holds burst t b e =
    record {
      period = simp (eq-eqb _ _ b);
      rows = simp (eq-eqb _ _ b) e;
      low = lit≤ tt;
      high = lit≤ tt;
      count = simp (eq-eqb _ _ b) short_proper.count;
      digits = simp (eq-eqb _ _ b) short_proper.long;
      small = simp (eq-eqb _ _ b) short_proper.digit;
    }

pub long_holds : (burst : ℕ) (t : List ℕ) → (burst ≡ 2 → ⊥) → t ≡ table 57 long_rows → Holds burst 57 t
unfolding code_of rows_of
long_holds burst t b e =
    record {
      period = simp (ne_eqb _ _ b);
      rows = simp (ne_eqb _ _ b) e;
      low = lit≤ tt;
      high = lit≤ tt;
      count = simp (ne_eqb _ _ b) long_proper.count;
      digits = simp (ne_eqb _ _ b) long_proper.long;
      small = simp (ne_eqb _ _ b) long_proper.digit;
    }

-- a slice that elements of a cell's row were written into, by the rows that serve a burst type
abbrev served : ℕ → ℕ → ℕ → ℕ → List ℕ → List ℕ
served burst cell by count out = run (λ (i : ℕ). element (code_of burst).period (get_or (rows_of burst) cell []) (i + by)) count ++ drop count out

module _ (burst w : ℕ) (t : List ℕ) (held : Holds burst w t) (cell : ℕ) (h : cell < 128) (row : List ℕ) (lent : row ≡ take w (drop (cell * w) t)) where
  is_packed : row ≡ packed w (get_or (rows_of burst) cell [])
  is_packed =
      lent
      ∙ ap (λ (x : List ℕ). take w (drop (cell * w) x)) held.rows
      ∙ row_packed w (rows_of burst) cell (omega (arith, held.count))

  row_length : length row ≡ w
  row_length = ap length is_packed ∙ packed_length w (get_or (rows_of burst) cell [])

  pub row_good : Row row
  row_good = record { some = omega (arith, row_length, held.low); few = omega (arith, row_length, held.high) }

  abbrev of_cell : ℕ → ℕ
  of_cell i = element (code_of burst).period (get_or (rows_of burst) cell []) i

  pub read_at : (i : ℕ) → element_in row i ≡ of_cell i
  unfolding element_in
  read_at i =
      let digits = ap digits_in is_packed ∙ digits_back (get_or (rows_of burst) cell []) (λ k. held.small cell k h) w (held.digits cell h) in
      ap (λ (n : ℕ). element (8 * n) (digits_in row) i) row_length
      ∙ ap (λ (l : List ℕ). element (8 * w) l i) digits
      ∙ ap (λ (P : ℕ). element P (get_or (rows_of burst) cell []) i) (sym held.period)

  pub filled : (by count : ℕ) (out l : List ℕ) → l ≡ elements_after row by count out → l ≡ served burst cell by count out
  filled by count out l e = e ∙ ap (λ (x : List ℕ). x ++ drop count out) (run_same _ _ count (λ i low. read_at (i + by)))

-- type 2 has the short rows, every other the long ones, as type 1 has
module _ (burst cell by count : ℕ) (out l : List ℕ) where
  pub short_served : burst ≡ 2 → l ≡ served 2 cell by count out → l ≡ served burst cell by count out
  short_served b e = e ∙ ap (λ (k : ℕ). served k cell by count out) (sym b)

  pub long_served : (burst ≡ 2 → ⊥) → l ≡ served 1 cell by count out → l ≡ served burst cell by count out
  unfolding code_of rows_of
  long_served b e = simp (ne_eqb _ _ b) e

-- The table of bytes, row by row and byte by byte, for every width of a row. Cited by the crate elements.
-- Assumes nothing.
use mathlib.Core.Path.{◌≡◌, refl, ap, ◌∙◌}
use mathlib.Core.List.{List, [], ◌∷◌, ◌++◌}
use Prim.Native.Nat.{ℕ, zero, suc, ◌+◌, ◌*◌, ◌<◌}
use native.Mathlib.Nat.{not-suc-le-zero, le_of_suc-le-suc, zero-mul, suc-mul}
use native.Mathlib.Omega.{arith}
use lib.ListN.{length, get_or, take, drop}
use lib.Seq.{drop-append-add, get_or-drop, take_at}
use Rattle.code_text.specs.Rows.{packed, table}

pub packed_length : (w : ℕ) (row : List ℕ) → length (packed w row) ≡ w
packed_length zero row = refl
packed_length (suc w) row = ap suc (packed_length w (drop 2 row))

-- byte m of a row
pub packed_at : (w : ℕ) (row : List ℕ) (m : ℕ) → m < w → get_or (packed w row) m 0 ≡ get_or row (2 * m) 0 * 16 + get_or row (2 * m + 1) 0
packed_at zero row m h = absurd (not-suc-le-zero h)
packed_at (suc w) row zero h = refl
packed_at (suc w) row (suc m) h =
    let high : 2 + 2 * m ≡ 2 * suc m = omega arith in
    let low : 2 + (2 * m + 1) ≡ 2 * suc m + 1 = omega arith in
    packed_at w (drop 2 row) m (le_of_suc-le-suc h)
    ∙ ap (λ (d : ℕ). d * 16 + get_or (drop 2 row) (2 * m + 1) 0) (get_or-drop 2 row (2 * m) 0 ∙ ap (λ (k : ℕ). get_or row k 0) high)
    ∙ ap (λ (d : ℕ). get_or row (2 * suc m) 0 * 16 + d) (get_or-drop 2 row (2 * m + 1) 0 ∙ ap (λ (k : ℕ). get_or row k 0) low)

-- row n of the table
pub row_packed : (w : ℕ) (rows : List (List ℕ)) (n : ℕ) → n < length rows → take w (drop (n * w) (table w rows)) ≡ packed w (get_or rows n [])
row_packed w [] n h = absurd (not-suc-le-zero h)
row_packed w (row ∷ rest) zero h =
    ap (λ (k : ℕ). take w (drop k (packed w row ++ table w rest))) (zero-mul w) ∙ take_at (packed w row) (table w rest) w (packed_length w row)
row_packed w (row ∷ rest) (suc n) h =
    let e : suc n * w ≡ length (packed w row) + n * w = omega (arith, packed_length w row, suc-mul n w) in
    ap (λ (k : ℕ). take w (drop k (packed w row ++ table w rest))) e
    ∙ ap (take w) (drop-append-add (packed w row) (table w rest) (n * w))
    ∙ row_packed w rest n (le_of_suc-le-suc h)

-- Document 01, "Training sequences": "every row has its digit count and no two rows of a table are equal". One computed test for each table. Cited by the crate elements.
-- Assumes nothing.
use mathlib.Core.Path.{◌≡◌, refl, sym, ap, ◌∙◌, subst}
use mathlib.Core.Bool.{Bool, true, not, ◌&&◌, ◌||◌}
use mathlib.Core.List.{List, [], ◌∷◌, map}
use Prim.Native.Nat.{ℕ, zero, suc, ◌+◌, ◌*◌, ◌<◌}
use Prim.Native.String.{String, [] as nil, ◌∷◌ as ◌then◌}
use Prim.Native.Char.{code}
use native.Mathlib.Nat.{not-suc-le-zero, le_of_suc-le-suc}
use lib.Dec.{T, eqb, ltb, leb, eqb→eq, ltb→lt, eqb_refl, T_not, lit<}
use lib.ListN.{length, get_or}
use Rattle.laws.proofs.Bools.{T-and-left, T-and-right}
use Rattle.code_text.specs.LongText.{long_text}
use Rattle.code_text.specs.ShortText.{short_text}
use Rattle.code_text.specs.Rows.{digits, long_rows, short_rows}

-- a character, by its code, is one of 0 to 9 and A to F
abbrev is_hex : ℕ → Bool
is_hex c = leb 48 c && ltb c 58 || leb 65 c && ltb c 71

abbrev all_hex : String → Bool
all_hex nil = true
all_hex (c then rest) = is_hex (code c) && all_hex rest

-- the number that a row's digits stand for: equal rows have equal numbers, and numbers are quick to compare
abbrev number : ℕ → List ℕ → ℕ
number so_far [] = so_far
number so_far (d ∷ rest) = number (so_far * 16 + d) rest

-- every digit is below 16
abbrev all_digits : List ℕ → Bool
all_digits [] = true
all_digits (d ∷ rest) = ltb d 16 && all_digits rest

-- every printed row is of hexadecimal digits
abbrev printed : List String → Bool
printed [] = true
printed (row ∷ rest) = all_hex row && printed rest

-- every row has n digits
abbrev counted : ℕ → List (List ℕ) → Bool
counted n [] = true
counted n (row ∷ rest) = (eqb (length row) n && all_digits row) && counted n rest

abbrev absent : ℕ → List ℕ → Bool
absent x [] = true
absent x (y ∷ ys) = not (eqb x y) && absent x ys

-- no number comes again
abbrev fresh : List ℕ → Bool
fresh [] = true
fresh (x ∷ xs) = absent x xs && fresh xs

-- the test of a table, on its text
abbrev proper : ℕ → List String → Bool
proper n text =
    printed text && (counted n (map (λ row. digits row) text) && fresh (map (λ row. number 0 row) (map (λ row. digits row) text)))

-- what the test gives, at every row

counted_at : (n : ℕ) (rows : List (List ℕ)) → T (counted n rows) → (i : ℕ) → i < length rows → T (eqb (length (get_or rows i [])) n && all_digits (get_or rows i []))
counted_at n [] t i h = absurd (not-suc-le-zero h)
counted_at n (row ∷ rest) t zero h = T-and-left (eqb (length row) n && all_digits row) (counted n rest) t
counted_at n (row ∷ rest) t (suc i) h = counted_at n rest (T-and-right (eqb (length row) n && all_digits row) (counted n rest) t) i (le_of_suc-le-suc h)

digit_at : (row : List ℕ) → T (all_digits row) → (p : ℕ) → get_or row p 0 < 16
digit_at [] t p = lit< tt
digit_at (d ∷ rest) t zero = ltb→lt d 16 (T-and-left (ltb d 16) (all_digits rest) t)
digit_at (d ∷ rest) t (suc p) = digit_at rest (T-and-right (ltb d 16) (all_digits rest) t) p

not_there : (x : ℕ) (ys : List ℕ) → T (absent x ys) → (j : ℕ) → j < length ys → x ≡ get_or ys j 0 → ⊥
not_there x [] t j h e = not-suc-le-zero h
not_there x (y ∷ ys) t zero h e = T_not (eqb x y) (T-and-left (not (eqb x y)) (absent x ys) t) (subst (λ (z : ℕ). T (eqb x z)) e (eqb_refl x))
not_there x (y ∷ ys) t (suc j) h e = not_there x ys (T-and-right (not (eqb x y)) (absent x ys) t) j (le_of_suc-le-suc h) e

fresh_at : (xs : List ℕ) → T (fresh xs) → (i j : ℕ) → i < length xs → j < length xs → get_or xs i 0 ≡ get_or xs j 0 → i ≡ j
fresh_at [] t i j hi hj e = absurd (not-suc-le-zero hi)
fresh_at (x ∷ xs) t zero zero hi hj e = refl
fresh_at (x ∷ xs) t zero (suc j) hi hj e = absurd (not_there x xs (T-and-left (absent x xs) (fresh xs) t) j (le_of_suc-le-suc hj) e)
fresh_at (x ∷ xs) t (suc i) zero hi hj e = absurd (not_there x xs (T-and-left (absent x xs) (fresh xs) t) i (le_of_suc-le-suc hi) (sym e))
fresh_at (x ∷ xs) t (suc i) (suc j) hi hj e = ap suc (fresh_at xs (T-and-right (absent x xs) (fresh xs) t) i j (le_of_suc-le-suc hi) (le_of_suc-le-suc hj) e)

rows_length : (text : List String) → length (map (λ row. digits row) text) ≡ length text
rows_length [] = refl
rows_length (row ∷ rest) = ap suc (rows_length rest)

numbers_length : (rows : List (List ℕ)) → length (map (λ row. number 0 row) rows) ≡ length rows
numbers_length [] = refl
numbers_length (row ∷ rest) = ap suc (numbers_length rest)

number_at : (rows : List (List ℕ)) (i : ℕ) → get_or (map (λ row. number 0 row) rows) i 0 ≡ number 0 (get_or rows i [])
number_at [] i = refl
number_at (row ∷ rest) zero = refl
number_at (row ∷ rest) (suc i) = number_at rest i

printed_at : (text : List String) → T (printed text) → (i : ℕ) → i < length text → T (all_hex (get_or text i ""))
printed_at [] t i h = absurd (not-suc-le-zero h)
printed_at (row ∷ rest) t zero h = T-and-left (all_hex row) (printed rest) t
printed_at (row ∷ rest) t (suc i) h = printed_at rest (T-and-right (all_hex row) (printed rest) t) i (le_of_suc-le-suc h)

-- a table that passed the test: 128 rows, each printed in hexadecimal digits, n of them, and no two alike
pub record Proper (n : ℕ) (text : List String) (rows : List (List ℕ)) : Type 0 where
  pub count : length rows ≡ 128
  pub hex : (i : ℕ) → i < 128 → T (all_hex (get_or text i ""))
  pub long : (i : ℕ) → i < 128 → length (get_or rows i []) ≡ n
  pub digit : (i p : ℕ) → i < 128 → get_or (get_or rows i []) p 0 < 16
  pub differ : (i j : ℕ) → i < 128 → j < 128 → get_or rows i [] ≡ get_or rows j [] → i ≡ j

-- what a text has that passed the test
module _ (n : ℕ) (text : List String) (t : T (proper n text)) (c : length text ≡ 128) where
  abbrev rows : List (List ℕ)
  rows = map (λ row. digits row) text

  abbrev numbers : List ℕ
  numbers = map (λ row. number 0 row) rows

  all_printed : T (printed text)
  all_printed = T-and-left (printed text) (counted n rows && fresh numbers) t

  all_counted : T (counted n rows)
  all_counted = T-and-left (counted n rows) (fresh numbers) (T-and-right (printed text) (counted n rows && fresh numbers) t)

  all_fresh : T (fresh numbers)
  all_fresh = T-and-right (counted n rows) (fresh numbers) (T-and-right (printed text) (counted n rows && fresh numbers) t)

  row_of : (i : ℕ) → i < 128 → i < length rows
  row_of i h = subst (λ (m : ℕ). i < m) (sym (rows_length text ∙ c)) h

  number_of : (i : ℕ) → i < 128 → i < length numbers
  number_of i h = subst (λ (m : ℕ). i < m) (sym (numbers_length rows)) (row_of i h)

  row_test : (i : ℕ) → i < 128 → T (eqb (length (get_or rows i [])) n && all_digits (get_or rows i []))
  row_test i h = counted_at n rows all_counted i (row_of i h)

  tested : Proper n text rows
  tested =
      record {
        count = rows_length text ∙ c;
        hex = λ i h. printed_at text all_printed i (subst (λ (m : ℕ). i < m) (sym c) h);
        long = λ i h. eqb→eq (length (get_or rows i [])) n (T-and-left (eqb (length (get_or rows i [])) n) (all_digits (get_or rows i [])) (row_test i h));
        digit = λ i p h. digit_at (get_or rows i []) (T-and-right (eqb (length (get_or rows i [])) n) (all_digits (get_or rows i [])) (row_test i h)) p;
        differ = λ i j hi hj e.
            fresh_at numbers all_fresh i j (number_of i hi) (number_of j hj)
            (number_at rows i ∙ ap (λ (row : List ℕ). number 0 row) e ∙ sym (number_at rows j));
      }

-- one computed test a table, and its rows counted

long_passes : T (proper 114 long_text)
unfolding long_text
long_passes = tt

long_count : length long_text ≡ 128
unfolding long_text
long_count = refl

pub long_proper : Proper 114 long_text long_rows
unfolding long_rows
long_proper = tested 114 long_text long_passes long_count

short_passes : T (proper 48 short_text)
unfolding short_text
short_passes = tt

short_count : length short_text ≡ 128
unfolding short_text
short_count = refl

pub short_proper : Proper 48 short_text short_rows
unfolding short_rows
short_proper = tested 48 short_text short_passes short_count

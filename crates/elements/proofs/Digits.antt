-- The digits of a row's bytes, and the powers of each digit's four elements. Cited by the proofs of this crate.
-- Assumes nothing.
use mathlib.Core.Path.{◌≡◌, refl, sym, ap, ◌∙◌}
use mathlib.Core.List.{List, [], ◌∷◌, ◌++◌}
use mathlib.Core.Logic.{⊎_elim}
use Prim.Native.Nat.{ℕ, zero, suc, ◌+◌, ◌-◌, ◌*◌, ◌/◌, ◌%◌, ◌^◌, ◌<◌}
use native.Mathlib.Nat.{not-suc-le-zero, eq-or-lt_of_le, le_of_suc-le-suc}
use native.Mathlib.Omega.{arith}
use lib.ListN.{length, get_or, length-append, get_or-append}
use lib.Seq.{ext_get_or, get_or_at}
use Rattle.laws.proofs.Runs.{run_at}
use Rattle.code_text.specs.Rows.{packed}
use Rattle.code_text.proofs.Reading.{packed_length, packed_at}
use Rattle.elements.specs.Inside.{digits_in, power_in, four_of, fours_of}

-- two digits a byte
digits_length : (row : List ℕ) → length (digits_in row) ≡ 2 * length row
unfolding digits_in
digits_length [] = refl
digits_length (b ∷ rest) = omega (arith, digits_length rest)

-- digit g lies in byte g div 2, the first of a byte in its high half
pub digits_at : (row : List ℕ) (g : ℕ) → g < 2 * length row → get_or (digits_in row) g 0 ≡ get_or row (g / 2) 0 / 2 ^ (4 * (1 - g % 2)) % 16
unfolding digits_in
digits_at [] g h = absurd (not-suc-le-zero h)
digits_at (b ∷ rest) zero h = refl
digits_at (b ∷ rest) (suc zero) h = ap (λ (k : ℕ). k % 16) (omega arith)
digits_at (b ∷ rest) (suc (suc g)) h =
    let byte : suc (g / 2) ≡ suc (suc g) / 2 = omega arith in
    let half : g % 2 ≡ suc (suc g) % 2 = omega arith in
    digits_at rest g (omega arith)
    ∙ ap (λ (k : ℕ). get_or (b ∷ rest) k 0 / 2 ^ (4 * (1 - g % 2)) % 16) byte
    ∙ ap (λ (k : ℕ). get_or (b ∷ rest) (suc (suc g) / 2) 0 / 2 ^ (4 * (1 - k)) % 16) half

-- every digit is below 16
pub digit_low : (row : List ℕ) (g d : ℕ) → d ≡ get_or (digits_in row) g 0 → d < 16
unfolding digits_in
digit_low [] g d e = omega arith
digit_low (b ∷ rest) zero d e = omega arith
digit_low (b ∷ rest) (suc zero) d e = omega arith
digit_low (b ∷ rest) (suc (suc g)) d e = digit_low rest g d e

-- the digits of packed digits are these digits
module _ (row : List ℕ) (small : (k : ℕ) → get_or row k 0 < 16) where
  half_of : (g r : ℕ) → g % 2 ≡ r → (get_or row (2 * (g / 2)) 0 * 16 + get_or row (2 * (g / 2) + 1) 0) / 2 ^ (4 * (1 - r)) % 16 ≡ get_or row g 0
  half_of g zero e =
      let first : 2 * (g / 2) ≡ g = omega arith in
      omega (arith, small (2 * (g / 2)), small (2 * (g / 2) + 1)) ∙ ap (λ (k : ℕ). get_or row k 0) first
  half_of g (suc zero) e =
      let second : 2 * (g / 2) + 1 ≡ g = omega arith in
      omega (arith, small (2 * (g / 2) + 1)) ∙ ap (λ (k : ℕ). get_or row k 0) second
  half_of g (suc (suc r)) e = absurd (omega arith)

  pub digits_back : (w : ℕ) → length row ≡ 2 * w → digits_in (packed w row) ≡ row
  digits_back w long =
      let count : length (digits_in (packed w row)) ≡ 2 * w = digits_length (packed w row) ∙ ap (λ (n : ℕ). 2 * n) (packed_length w row) in
      ext_get_or 0 _ _ (count ∙ sym long)
      (λ g h.
      digits_at (packed w row) g (omega (arith, count, packed_length w row, h))
      ∙ ap (λ (b : ℕ). b / 2 ^ (4 * (1 - g % 2)) % 16) (packed_at w row (g / 2) (omega (arith, count, h)))
      ∙ half_of g (g % 2) refl)

-- the table of powers
fours_length : (n : ℕ) → length (fours_of n) ≡ n
unfolding fours_of
fours_length zero = refl
fours_length (suc n) = length-append (fours_of n) (four_of n ∷ []) ∙ omega (arith, fours_length n)

-- its entry for a digit
pub fours_at : (n d : ℕ) → d < n → get_or (fours_of n) d [] ≡ four_of d
unfolding fours_of
fours_at zero d h = absurd (not-suc-le-zero h)
fours_at (suc n) d h =
    ⊎_elim
    (λ (e : d ≡ n). ap (λ (k : ℕ). get_or (fours_of n ++ (four_of n ∷ [])) k []) e ∙ get_or_at (fours_of n) (four_of n) [] [] n (fours_length n) ∙ ap four_of (sym e))
    (λ (l : d < n). get_or-append (fours_of n) (four_of n ∷ []) [] d (omega (arith, fours_length n)) ∙ fours_at n d l)
    (eq-or-lt_of_le (le_of_suc-le-suc h))

-- and one of its four elements
pub power_at : (powers : List (List ℕ)) (d k : ℕ) → powers ≡ fours_of 16 → d < 16 → k < 4 → get_or (get_or powers d []) k 0 ≡ power_in d (k + 1)
unfolding four_of
power_at powers d k p h l = ap (λ (t : List (List ℕ)). get_or (get_or t d []) k 0) p ∙ ap (λ (four : List ℕ). get_or four k 0) (fours_at 16 d h) ∙ run_at (λ (e : ℕ). power_in d e) 4 k l

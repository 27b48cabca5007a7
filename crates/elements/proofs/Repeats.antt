-- The elements repeat exactly, and the four of a digit are the same wherever it stands, since 4 divides the period: for every period, row and element. Cited by
-- the proofs of this crate; `element_repeats` and `periods` are for the reader. Assumes nothing.
use mathlib.Core.Path.{◌≡◌, refl, sym, ap, ◌∙◌}
use mathlib.Core.Bool.{cond}
use mathlib.Core.List.{List}
use Prim.Native.Nat.{ℕ, ◌+◌, ◌-◌, ◌*◌, ◌/◌, ◌%◌, ◌^◌, ◌≤◌}
use native.Mathlib.Nat.{add-mod_right, add-mod-mod, mod-mod_of_dvd, dvd_of_mod-eq-zero}
use native.Mathlib.Omega.{arith}
use lib.Arith.{mod-mul}
use lib.Dec.{eqb, lit<}
use lib.ListN.{get_or}
use Rattle.code_text.specs.Rows.{bit_at}
use Rattle.elements.specs.Elements.{turned, basic, element}
use Rattle.elements.specs.Inside.{power_in}
use Rattle.codes.specs.Codes.{short, long}

-- element i + P is element i
pub element_repeats : (P : ℕ) (row : List ℕ) (i : ℕ) → 1 ≤ i → element P row (i + P) ≡ element P row i
unfolding element
element_repeats P row i h =
    let e : i + P - 1 ≡ i - 1 + P = omega arith in
    ap (λ (k : ℕ). basic row (k + 1)) (ap (λ (k : ℕ). k % P) e ∙ add-mod_right (i - 1) P)

-- "P divides by 4, so the repeat is exact": the power of j may as well be taken at i itself
pub element_turned : (P : ℕ) (row : List ℕ) (i : ℕ) → P % 4 ≡ 0 → 1 ≤ i → element P row i ≡ turned i (bit_at row ((i - 1) % P))
unfolding element basic turned
element_turned P row i four h =
    let p = (i - 1) % P in
    let same : p % 4 ≡ (i - 1) % 4 = mod-mod_of_dvd 4 (i - 1) (dvd_of_mod-eq-zero 4 four) in
    let plus : (p + 1) % 4 ≡ i % 4 = omega arith in
    let minus : (p + 1 + 2) % 4 ≡ (i + 2) % 4 = omega arith in
    let back : p + 1 - 1 ≡ p = omega arith in
    ap (λ (k : ℕ). cond (eqb (bit_at row k) 1) ((p + 1) % 4) ((p + 1 + 2) % 4)) back
    ∙ ap (λ (k : ℕ). cond (eqb (bit_at row p) 1) k ((p + 1 + 2) % 4)) plus
    ∙ ap (λ (k : ℕ). cond (eqb (bit_at row p) 1) (i % 4) k) minus

-- both periods divide by 4
pub periods : (long.period % 4 ≡ 0) × (short.period % 4 ≡ 0)
periods = (refl, refl)

-- a period of whole digits, P div 4 of them
module _ (P : ℕ) (four : P % 4 ≡ 0) (some : 1 ≤ P) (row : List ℕ) where
  -- place p lies in digit p div 4, at its place p mod 4
  place : (p : ℕ) → p % P ≡ p / 4 % (P / 4) * 4 + p % 4
  place p =
      let whole : P ≡ P / 4 * 4 = omega arith in
      ap (λ (n : ℕ). p % n) whole ∙ mod-mul p {m = P / 4} {c = 4} (omega arith) (lit< tt)

  pub bit_of_digit : (p : ℕ) → bit_at row (p % P) ≡ get_or row (p / 4 % (P / 4)) 0 / 2 ^ (3 - p % 4) % 2
  unfolding bit_at
  bit_of_digit p =
      let digit : p % P / 4 ≡ p / 4 % (P / 4) = omega (arith, place p) in
      let bit : p % P % 4 ≡ p % 4 = omega (arith, place p) in
      ap (λ (g : ℕ). get_or row g 0 / 2 ^ (3 - p % P % 4) % 2) digit ∙ ap (λ (k : ℕ). get_or row (p / 4 % (P / 4)) 0 / 2 ^ (3 - k) % 2) bit

  -- "Each digit is four elements": digit g begins behind element 4g, and its elements' powers are those that the digit has by itself
  pub element_of_digit : (g e : ℕ) → 1 ≤ e → e ≤ 4 → element P row (e + 4 * g) ≡ power_in (get_or row (g % (P / 4)) 0) e
  unfolding power_in turned
  element_of_digit g e low high =
      let p = e + 4 * g - 1 in
      let digit : p / 4 ≡ g = omega arith in
      let bit : 3 - p % 4 ≡ 4 - e = omega arith in
      let plus : (e + 4 * g) % 4 ≡ e % 4 = omega arith in
      let minus : (e + 4 * g + 2) % 4 ≡ (e + 2) % 4 = omega arith in
      element_turned P row (e + 4 * g) four (omega arith)
      ∙ ap (turned (e + 4 * g)) (bit_of_digit p)
      ∙ ap (λ (k : ℕ). turned (e + 4 * g) (get_or row (k % (P / 4)) 0 / 2 ^ (3 - p % 4) % 2)) digit
      ∙ ap (λ (k : ℕ). turned (e + 4 * g) (get_or row (g % (P / 4)) 0 / 2 ^ k % 2)) bit
      ∙ ap (λ (k : ℕ). cond (eqb (get_or row (g % (P / 4)) 0 / 2 ^ (4 - e) % 2) 1) k ((e + 4 * g + 2) % 4)) plus
      ∙ ap (λ (k : ℕ). cond (eqb (get_or row (g % (P / 4)) 0 / 2 ^ (4 - e) % 2) 1) (e % 4) k) minus

  -- beyond the last digit the first comes again
  pub digit_again : (g i : ℕ) → 1 ≤ i → element P row (i + 4 * (g % (P / 4))) ≡ element P row (i + 4 * g)
  unfolding element
  digit_again g i low =
      let m = P / 4 in
      let here : (i + 4 * (g % m) - 1) / 4 ≡ (i - 1) / 4 + g % m = omega arith in
      let there : (i + 4 * g - 1) / 4 ≡ (i - 1) / 4 + g = omega arith in
      let bit : (i + 4 * (g % m) - 1) % 4 ≡ (i + 4 * g - 1) % 4 = omega arith in
      let same : (i + 4 * (g % m) - 1) / 4 % m ≡ (i + 4 * g - 1) / 4 % m =
      ap (λ (k : ℕ). k % m) here ∙ add-mod-mod ((i - 1) / 4) g m ∙ ap (λ (k : ℕ). k % m) (sym there) in
      ap (λ (k : ℕ). basic row (k + 1))
      (place (i + 4 * (g % m) - 1) ∙ ap (λ (k : ℕ). k * 4 + (i + 4 * (g % m) - 1) % 4) same ∙ ap (λ (k : ℕ). (i + 4 * g - 1) / 4 % m * 4 + k) bit ∙ sym (place (i + 4 * g - 1)))

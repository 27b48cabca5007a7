-- The signs of a row, read off its elements' powers of j, and what is left of a chip once its power of j is taken away: the sign. Cited by the proof of fill_signs, by Meaning.antt, and by the crates hearing and correlating.
-- Assumes nothing.
use mathlib.Core.Path.{◌≡◌, refl, sym, ap, ◌∙◌, subst}
use mathlib.Core.Bool.{Bool, true, false, cond}
use mathlib.Core.List.{List, [], ◌++◌}
use Prim.Native.Nat.{ℕ, ◌+◌, ◌-◌, ◌%◌, ◌≤◌, ◌<◌}
use native.Mathlib.Nat.{mod-lt, mod-mod}
use native.Mathlib.Omega.{arith}
use lib.Dec.{T, eqb, lit<}
use lib.ListN.{get_or, get_or-append}
use lib.IntN.{pos, negsuc, nat_abs}
use lib.Ieee.{Float, nan, binary32, sub, of_int}
use Rattle.floats.proofs.Sums.{difference_exact, whole_is}
use Rattle.laws.specs.Runs.{run}
use Rattle.laws.proofs.Runs.{run_length, run_at}
use Rattle.code_text.specs.Rows.{bit_at}
use Rattle.codes.specs.Codes.{code_of}
use Rattle.codes.proofs.Numbers.{of_codes}
use Rattle.elements.specs.Elements.{rows_of, turned, element}
use Rattle.elements.proofs.Repeats.{element_turned}
use Rattle.samples.specs.Samples.{is_sample, sample_of}
use Rattle.samples.proofs.Reading.{reads_whole, is_whole}
use Rattle.correlation.specs.Inside.{sign_at, sign_from, Signs, reach, HoldsSigns}

-- the sign of an element, by its bit
from_bit : (k : ℕ) (b : Bool) → sign_from (k % 4) (cond b (k % 4) ((k + 2) % 4)) ≡ of_int binary32 (cond b (pos 1) (negsuc 0))
from_bit k true = ap (λ (n : ℕ). sub binary32 (of_int binary32 (pos 1)) (of_int binary32 (pos n))) none ∙ difference_exact binary32 (of_int binary32 (pos 0)) (pos 1) (pos 0) (omega arith) (whole_is binary32 (pos 0) (omega arith))
  where
    none : (k % 4 + 4 - k % 4) % 4 ≡ 0
    none = omega arith
from_bit k false = ap (λ (n : ℕ). sub binary32 (of_int binary32 (pos 1)) (of_int binary32 (pos n))) two ∙ difference_exact binary32 (of_int binary32 (pos 2)) (pos 1) (pos 2) (omega arith) (whole_is binary32 (pos 2) (omega arith))
  where
    two : ((k + 2) % 4 + 4 - k % 4) % 4 ≡ 2
    two = omega arith

-- both periods divide by 4, and are between 1 and 512
pub period_four : (burst : ℕ) → (code_of burst).period % 4 ≡ 0
period_four = of_codes (λ c. c.period % 4 ≡ 0) refl refl

pub period_some : (burst : ℕ) → (1 ≤ (code_of burst).period) × ((code_of burst).period ≤ 512)
period_some = of_codes (λ c. (1 ≤ c.period) × (c.period ≤ 512)) (omega arith, omega arith) (omega arith, omega arith)

pub reach_high : (burst : ℕ) → reach burst ≤ 968
reach_high = of_codes (λ c. c.period + c.length ≤ 968) (omega arith) (omega arith)

module _ (cell burst : ℕ) where
  abbrev P : ℕ
  P = (code_of burst).period

  abbrev row : List ℕ
  row = get_or (rows_of burst) cell []

  -- element i, from 1: j to the power i with its sign
  pub element_is : (i : ℕ) → 1 ≤ i → element P row i ≡ cond (eqb (bit_at row ((i - 1) % P)) 1) (i % 4) ((i + 2) % 4)
  unfolding turned
  element_is i low = element_turned P row i (period_four burst) low

  element_low : (i : ℕ) → 1 ≤ i → element P row i < 4
  element_low i low = subst (λ (n : ℕ). n < 4) (sym (element_is i low)) (by (eqb (bit_at row ((i - 1) % P)) 1))
    where
      by : (b : Bool) → cond b (i % 4) ((i + 2) % 4) < 4
      by true = mod-lt i (lit< tt)
      by false = mod-lt (i + 2) (lit< tt)

  -- the powers of a period, as they were filled
  filled_at : (powers rest : List ℕ) (n m : ℕ) → powers ≡ run (λ (i : ℕ). element P row (i + 0)) n ++ rest → m < n → get_or powers m 0 ≡ element P row (m + 1)
  filled_at powers rest n m e h =
      let none : m + 1 + 0 ≡ m + 1 = omega arith in
      ap (λ (l : List ℕ). get_or l m 0) e
      ∙ get_or-append (run (λ (i : ℕ). element P row (i + 0)) n) rest 0 m (omega (arith, run_length (λ (i : ℕ). element P row (i + 0)) n))
      ∙ run_at (λ (i : ℕ). element P row (i + 0)) n m h
      ∙ ap (element P row) none

  pub filled_low : (powers rest : List ℕ) (n : ℕ) → powers ≡ run (λ (i : ℕ). element P row (i + 0)) n ++ rest → (m : ℕ) → m < n → get_or powers m 0 < 4
  filled_low powers rest n e m h = subst (λ (k : ℕ). k < 4) (sym (filled_at powers rest n m e h)) (element_low (m + 1) (omega arith))

  -- the sign at place m of the row, from those of the first period
  sign_placed : (powers rest : List ℕ) (once out : List Float) (m : ℕ) → powers ≡ run (λ (i : ℕ). element P row (i + 0)) P ++ rest
      → ((k : ℕ) → k < P → get_or once k nan ≡ sign_from ((k + 1) % 4) (get_or powers k 0))
      → get_or out m nan ≡ get_or once (m % P) nan → get_or out m nan ≡ of_int binary32 (sign_at cell burst (m + 1))
  unfolding sign_at
  sign_placed powers rest once out m e signs again =
      let k = m % P in
      let low : k < P = mod-lt m (period_some burst).0 in
      let bit : Bool = eqb (bit_at row ((k + 1 - 1) % P)) 1 in
      let back : (k + 1 - 1) % P ≡ (m + 1 - 1) % P = ap (λ (n : ℕ). n % P) (less k) ∙ mod-mod m P ∙ sym (ap (λ (n : ℕ). n % P) (less m)) in
      again
      ∙ signs k low
      ∙ ap (sign_from ((k + 1) % 4)) (filled_at powers rest P k e low ∙ element_is (k + 1) (omega arith))
      ∙ from_bit (k + 1) bit
      ∙ ap (λ (n : ℕ). of_int binary32 (cond (eqb (bit_at row n) 1) (pos 1) (negsuc 0))) back
    where
      less : (n : ℕ) → n + 1 - 1 ≡ n
      less n = omega arith

  -- all of them, the period p having been fetched
  pub signs_held : (p n : ℕ) (powers rest : List ℕ) (once out : List Float) → P ≡ p → powers ≡ run (λ (i : ℕ). element P row (i + 0)) p ++ rest
      → ((k : ℕ) → k < p → get_or once k nan ≡ sign_from ((k + 1) % 4) (get_or powers k 0)) → ((m : ℕ) → m < n → get_or out m nan ≡ get_or once (m % p) nan) → HoldsSigns cell burst n out
  signs_held p n powers rest once out e =
      subst
      (λ (q : ℕ). powers ≡ run (λ (i : ℕ). element P row (i + 0)) q ++ rest
      → ((k : ℕ) → k < q → get_or once k nan ≡ sign_from ((k + 1) % 4) (get_or powers k 0)) → ((m : ℕ) → m < n → get_or out m nan ≡ get_or once (m % q) nan) → HoldsSigns cell burst n out)
      e
      (λ filled signs again. record { sign = λ m h. sign_placed powers rest once out m filled signs (again m h) })

  -- a row of signs: each is 1 or -1, and read as what it is
  sign_size : (i : ℕ) → nat_abs (sign_at cell burst i) ≤ 1
  unfolding sign_at
  sign_size i = by (eqb (bit_at row ((i - 1) % P)) 1)
    where
      by : (b : Bool) → nat_abs (cond b (pos 1) (negsuc 0)) ≤ 1
      by true = omega arith
      by false = omega arith

  pub sign_read : (n : ℕ) (b : List Float) (m : ℕ) → HoldsSigns cell burst n b → m < n → sample_of (get_or b m nan) ≡ sign_at cell burst (m + 1)
  sign_read n b m held h = ap sample_of (held.sign m h) ∙ reads_whole (sign_at cell burst (m + 1)) (omega (arith, sign_size (m + 1)))

  pub are_signs : (n k : ℕ) (b : List Float) → HoldsSigns cell burst n b → k ≤ n → Signs b k
  are_signs n k b held h =
      record {
        all = λ m l. (
          subst (λ (x : Float). T (is_sample x)) (sym (held.sign m (omega arith))) (subst T (sym (is_whole (sign_at cell burst (m + 1)) (omega (arith, sign_size (m + 1))))) tt),
          omega (arith, ap nat_abs (sign_read n b m held (omega arith)), sign_size (m + 1)),
        );
      }

-- Columns added by halves: their total stays, and each is the float of a whole number. Cited by the proofs of halve and joined, and by Columns.
-- Assumes nothing.
use mathlib.Core.Path.{◌≡◌, sym, ap, ◌∙◌}
use mathlib.Core.List.{List}
use Prim.Native.Nat.{ℕ, ◌+◌, ◌-◌, ◌*◌, ◌^◌, ◌≤◌, ◌<◌}
use native.Mathlib.Omega.{arith}
use lib.ListN.{get_or}
use lib.IntN.{ℤ, nat_abs, ◌+ℤ◌, +ℤ_idl}
use lib.Ieee.{Float, nan, binary32, add, of_int}
use Rattle.sums.specs.Totals.{total}
use Rattle.sums.proofs.Totals.{size_sum, total_same, total_sum, total_cut}
use Rattle.floats.proofs.Sums.{sum_exact, whole_is}
use Rattle.samples.specs.Samples.{sample_of}
use Rattle.samples.proofs.Reading.{reads}
use Rattle.correlation.specs.Inside.{Wholes}

-- column k with the one that stands h further on
abbrev pub halved : ℕ → (ℕ → ℤ) → ℕ → ℤ
halved h v k = v k +ℤ v (k + h)

-- the total is the same
pub total_halved : (h : ℕ) (v : ℕ → ℤ) → total (λ (l : ℕ). halved h v (l - 1)) h ≡ total (λ (l : ℕ). v (l - 1)) (2 * h)
total_halved h v =
    let f : ℕ → ℤ = λ l. v (l - 1) in
    let double : 2 * h ≡ h + h = omega arith in
    total_sum f (λ (l : ℕ). v (l - 1 + h)) h
    ∙ ap (λ (z : ℤ). total f h +ℤ z) (total_same (λ (l : ℕ). v (l - 1 + h)) (λ (l : ℕ). f (h + l)) h (λ l low high. ap v (further l low)))
    ∙ sym (total_cut f h h)
    ∙ sym (ap (total f) double)
  where
    further : (l : ℕ) → 1 ≤ l → l - 1 + h ≡ h + l - 1
    further l low = omega arith

-- the first n places of a row have the floats of whole numbers, none larger than b
pub record Hold (v : ℕ → ℤ) (row : List Float) (n b : ℕ) : Type 0 where
  pub is : (k : ℕ) → k < n → get_or row k nan ≡ of_int binary32 (v k)
  pub few : (k : ℕ) → k < n → nat_abs (v k) ≤ b

module _ (v : ℕ → ℤ) (row : List Float) (n b : ℕ) (held : Hold v row n b) (low : b ≤ 2 ^ 22) where
  pub read_back : (k : ℕ) → k < n → sample_of (get_or row k nan) ≡ v k
  read_back k h = let few = held.few k h in ap sample_of (held.is k h) ∙ reads (of_int binary32 (v k)) (v k) (whole_is binary32 (v k) (omega arith))

  pub are_wholes : (most : ℕ) → b ≤ most → Wholes row n most
  are_wholes most enough =
      record {
        all = λ k h.
            (held.is k h ∙ ap (of_int binary32) (sym (read_back k h)), let few = held.few k h in omega (arith, ap nat_abs (read_back k h)));
      }

  -- the half of them, with the other half added
  pub hold_half : (h : ℕ) (after : List Float) → 2 * h ≡ n → ((k : ℕ) → k < h → get_or after k nan ≡ of_int binary32 (sample_of (get_or row k nan) +ℤ sample_of (get_or row (k + h) nan)))
      → Hold (halved h v) after h (2 * b)
  hold_half h after e added =
      record {
        is = λ k l.
            added k l ∙ ap (λ (z : ℤ). of_int binary32 (z +ℤ sample_of (get_or row (k + h) nan))) (read_back k (omega arith)) ∙ ap (λ (z : ℤ). of_int binary32 (v k +ℤ z)) (read_back (k + h) (omega arith));
        few = λ k l. let one = held.few k (omega arith) in let other = held.few (k + h) (omega arith) in omega (arith, size_sum (v k) (v (k + h)));
      }

  -- the last two
  pub last_two : n ≡ 2 → add binary32 (get_or row 0 nan) (get_or row 1 nan) ≡ of_int binary32 (total (λ (l : ℕ). v (l - 1)) 2)
  unfolding total
  last_two e =
      let a = held.few 0 (omega arith) in
      let b = held.few 1 (omega arith) in
      ap (λ (x : Float). add binary32 x (get_or row 1 nan)) (held.is 0 (omega arith))
      ∙ ap (λ (x : Float). add binary32 (of_int binary32 (v 0)) x) (held.is 1 (omega arith))
      ∙ sum_exact binary32 (of_int binary32 (v 1)) (v 0) (v 1) (omega arith) (whole_is binary32 (v 1) (omega arith))
      ∙ ap (λ (z : ℤ). of_int binary32 (z +ℤ v 1)) (sym (+ℤ_idl (v 0)))

-- one sum of two columns, in f32
pub sum_of_two : (row : List Float) (n j k : ℕ) (x y : Float) → Wholes row n (2 ^ 23) → j < n → k < n → x ≡ get_or row j nan → y ≡ get_or row k nan
    → add binary32 x y ≡ of_int binary32 (sample_of (get_or row j nan) +ℤ sample_of (get_or row k nan))
sum_of_two row n j k x y wholes h l p q =
    let a = wholes.all j h in
    let b = wholes.all k l in
    ap (λ (z : Float). add binary32 z y) (p ∙ a.0)
    ∙ ap (λ (z : Float). add binary32 (of_int binary32 (sample_of (get_or row j nan))) z) (q ∙ b.0)
    ∙ sum_exact binary32 (of_int binary32 (sample_of (get_or row k nan))) (sample_of (get_or row j nan)) (sample_of (get_or row k nan)) (omega (arith, a.1)) (whole_is binary32 (sample_of (get_or row k nan)) (omega (arith, b.1)))

-- The columns of products, each added in f32: what a turn of the loops makes of them, and what they are together. Cited by the proofs of dots and user_sums, and by the crate hearing.
-- Assumes nothing.
use mathlib.Core.Path.{◌≡◌, sym, ap, ◌∙◌}
use mathlib.Core.List.{List}
use mathlib.Core.Logic.{inl, inr}
use Prim.Native.Nat.{ℕ, ◌+◌, ◌-◌, ◌*◌, ◌^◌, ◌≤◌, ◌<◌}
use native.Mathlib.Nat.{mul-le-mul, eq-or-lt_of_le}
use native.Mathlib.Omega.{arith}
use lib.ListN.{get_or, length, set}
use lib.Seq.{get_or-set_same, get_or-set_other}
use lib.IntN.{ℤ, nat_abs, ◌+ℤ◌, ◌*ℤ◌}
use lib.Ieee.{Float, nan, binary32, add, mul, of_int, of_bits}
use Rattle.sums.specs.Totals.{total}
use Rattle.sums.proofs.Totals.{total_size, total_same, column, column_none, column_more, column_size, columns}
use Rattle.floats.specs.Whole.{IsWhole}
use Rattle.floats.proofs.Whole.{zero_plain}
use Rattle.floats.proofs.Sums.{sum_exact, product_whole, size_product}
use Rattle.samples.specs.Samples.{sample_of}
use Rattle.samples.proofs.Reading.{sample_is, sample_size}
use Rattle.correlation.specs.Inside.{Samples, Signs, Wholes, term, dot_of}
use Rattle.correlation.proofs.Halves.{Hold, read_back, are_wholes}

module _ (z b : List Float) (by count : ℕ) (samples : Samples z count) (signs : Signs b (by + count)) where
  -- a product of a sample and a sign is a whole number, at most 2047 in size
  small : (p : ℕ) → p < count → nat_abs (sample_of (get_or z p nan)) * nat_abs (sample_of (get_or b (by + p) nan)) ≤ 2047
  small p h =
      let t = mul-le-mul {n₂ = 2047} {m₂ = 1} (sample_size (get_or z p nan) (samples.all p h)) (signs.all (by + p) (omega arith)).1 in
      omega arith

  product : (p : ℕ) → p < count → IsWhole (mul binary32 (get_or z p nan) (get_or b (by + p) nan)) (sample_of (get_or z p nan) *ℤ sample_of (get_or b (by + p) nan))
  product p h =
      product_whole binary32 (get_or z p nan) (get_or b (by + p) nan) (sample_of (get_or z p nan)) (sample_of (get_or b (by + p) nan))
      (sample_is (get_or z p nan) (samples.all p h)) (sample_is (get_or b (by + p) nan) (signs.all (by + p) (omega arith)).0) (omega (arith, small p h))

  term_size : (i : ℕ) → 1 ≤ i → i ≤ count → nat_abs (term z b by i) ≤ 2047
  term_size i low high = omega (arith, small (i - 1) (omega arith), size_product (sample_of (get_or z (i - 1) nan)) (sample_of (get_or b (by + (i - 1)) nan)))

  -- one product more in column l, at places m and l
  pub column_turn : (m l t : ℕ) (x : Float) → m ≡ 32 * t → m + 32 ≤ count → count ≤ 512 → l < 32 → x ≡ of_int binary32 (column 32 (term z b by) l t)
      → add binary32 x (mul binary32 (get_or z (m + l) nan) (get_or b (by + m + l) nan)) ≡ of_int binary32 (column 32 (term z b by) l (t + 1))
  column_turn m l t x e room few h is =
      let f = term z b by in
      let p = m + l in
      let far : by + m + l ≡ by + p = omega arith in
      let here : 32 * t + (l + 1) - 1 ≡ p = omega arith in
      let size : nat_abs (column 32 f l t) ≤ t * 2047 = column_size 32 f 2047 l t (λ r high. term_size (32 * r + (l + 1)) (omega arith) (omega arith)) in
      let fits : nat_abs (column 32 f l t) ≤ 2 ^ 24 = omega arith in
      ap (λ (y : Float). add binary32 y (mul binary32 (get_or z p nan) (get_or b (by + m + l) nan))) is
      ∙ ap (λ (k : ℕ). add binary32 (of_int binary32 (column 32 f l t)) (mul binary32 (get_or z p nan) (get_or b k nan))) far
      ∙ sum_exact binary32 _ (column 32 f l t) _ fits (product p (omega arith))
      ∙ ap (λ (k : ℕ). of_int binary32 (column 32 f l t +ℤ (sample_of (get_or z k nan) *ℤ sample_of (get_or b (by + k) nan)))) (sym here)
      ∙ ap (of_int binary32) (sym (column_more 32 f l t))

  -- the sum is at most 512 times 2047, below 2 ^ 24
  pub dot_size : count ≤ 512 → nat_abs (dot_of z b by count) ≤ 1048064
  dot_size few = omega (arith, total_size (term z b by) 2047 count term_size)

  -- a column has at most sixteen products
  column_few : (t k : ℕ) → 32 * t ≡ count → count ≤ 512 → k < 32 → nat_abs (column 32 (term z b by) k t) ≤ 32752
  column_few t k e few h = omega (arith, column_size 32 (term z b by) 2047 k t (λ r high. term_size (32 * r + (k + 1)) (omega arith) (omega arith)))

  -- ---- all columns, when no product is left: each is the float of a whole number, and their total
  module _ (t : ℕ) (acc : List Float) (e : 32 * t ≡ count) (few : count ≤ 512) (is : (k : ℕ) → k < 32 → get_or acc k nan ≡ of_int binary32 (column 32 (term z b by) k t)) where
    held : Hold (λ (k : ℕ). column 32 (term z b by) k t) acc 32 32752
    held = record { is = is; few = λ k h. column_few t k e few h }

    pub columns_whole : Wholes acc 32 (2 ^ 18)
    columns_whole = are_wholes _ acc 32 32752 held (omega arith) (2 ^ 18) (omega arith)

    pub columns_total : total (λ (l : ℕ). sample_of (get_or acc (l - 1) nan)) 32 ≡ dot_of z b by count
    columns_total = total_same _ _ 32 (λ l low high. read_back _ acc 32 32752 held (omega arith) (l - 1) (omega arith)) ∙ columns 32 (term z b by) t ∙ ap (total (term z b by)) e

-- ---- the array of columns: those before l have a row more
abbrev pub Some : List Float → (ℕ → ℤ) → (ℕ → ℤ) → ℕ → Type 0
Some acc old new l = ((k : ℕ) → k < l → get_or acc k nan ≡ of_int binary32 (new k)) × ((k : ℕ) → l ≤ k → k < 32 → get_or acc k nan ≡ of_int binary32 (old k))

pub some_more : (acc : List Float) (old new : ℕ → ℤ) (l : ℕ) (x : Float) → length acc ≡ 32 → l < 32 → x ≡ of_int binary32 (new l) → Some acc old new l → Some (set acc l x) old new (l + 1)
some_more acc old new l x long h e some = (below, above)
  where
    other : (k : ℕ) → (k ≡ l → ⊥) → get_or (set acc l x) k nan ≡ get_or acc k nan
    other k d = get_or-set_other acc l k x nan d

    below : (k : ℕ) → k < l + 1 → get_or (set acc l x) k nan ≡ of_int binary32 (new k)
    below k lt =
        elim (eq-or-lt_of_le (le k lt)) [
          | inl same ↦ ap (λ (n : ℕ). get_or (set acc l x) n nan) same ∙ get_or-set_same acc l x nan (omega arith) ∙ e ∙ ap (λ (n : ℕ). of_int binary32 (new n)) (sym same)
          | inr less ↦ other k (λ same. absurd (omega arith)) ∙ some.0 k less
        ]
      where
        le : (k : ℕ) → k < l + 1 → k ≤ l
        le k lt = omega arith

    above : (k : ℕ) → l + 1 ≤ k → k < 32 → get_or (set acc l x) k nan ≡ of_int binary32 (old k)
    above k lt far = other k (λ same. absurd (omega arith)) ∙ some.1 k (omega arith) far

-- nothing was added yet
pub none_yet : (acc : List Float) (f : ℕ → ℤ) → ((k : ℕ) → k < 32 → get_or acc k nan ≡ of_bits binary32 0) → (k : ℕ) → k < 32 → get_or acc k nan ≡ of_int binary32 (column 32 f k 0)
none_yet acc f h k l = h k l ∙ zero_plain.0 ∙ ap (of_int binary32) (sym (column_none 32 f k))

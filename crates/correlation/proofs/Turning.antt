-- Turning back: four times is once round, so only the remainder by 4 counts; and what each case of the code makes of it. Cited by the proofs of this crate and by the crate hearing.
-- Assumes nothing.
use mathlib.Core.Path.{◌≡◌, refl, sym, ap, ◌∙◌, subst}
use mathlib.Core.List.{List}
use mathlib.Core.Logic.{inl, inr}
use Prim.Native.Nat.{ℕ, zero, suc, ◌+◌, ◌-◌, ◌*◌, ◌%◌, ◌≤◌, ◌<◌}
use native.Mathlib.Nat.{eq-or-lt_of_le}
use native.Mathlib.Omega.{arith}
use lib.Dec.{T}
use lib.ListN.{length, get_or, set, length-set}
use lib.Seq.{get_or-set_same, get_or-set_other}
use lib.IntN.{ℤ, pos, neg_ℤ, nat_abs, neg_ℤ-neg_ℤ, +ℤ_idl}
use lib.Ieee.{Float, nan, binary32, of_int, of_bits, neg, sub}
use Rattle.sums.proofs.Totals.{size_minus}
use Rattle.floats.proofs.Whole.{zero_plain}
use Rattle.floats.proofs.Sums.{whole_is, minus_whole, difference_exact}
use Rattle.samples.specs.Samples.{is_sample, sample_of}
use Rattle.samples.proofs.Reading.{sample_is, sample_size, reads, is_one}
use Rattle.correlation.specs.Correlation.{sample_at}
use Rattle.correlation.specs.Inside.{back, turned_back, sums_of, Samples}

-- ---- only the remainder counts
twice : (z : ℤ × ℤ) → back (back (back (back z))) ≡ z
twice z = λ j. (neg_ℤ-neg_ℤ z.0 j, neg_ℤ-neg_ℤ z.1 j)

pub by_remainder : (i : ℕ) (z : ℤ × ℤ) → turned_back i z ≡ turned_back (i % 4) z
unfolding turned_back
by_remainder zero z = refl
by_remainder (suc zero) z = refl
by_remainder (suc (suc zero)) z = refl
by_remainder (suc (suc (suc zero))) z = refl
by_remainder (suc (suc (suc (suc i)))) z =
    let same : i % 4 ≡ suc (suc (suc (suc i))) % 4 = omega arith in
    twice (turned_back i z) ∙ by_remainder i z ∙ ap (λ (k : ℕ). turned_back k z) same

-- one turn after another
pub turned_on : (i s : ℕ) (z : ℤ × ℤ) → turned_back (i + s) z ≡ turned_back s (turned_back i z)
unfolding turned_back
turned_on i zero z = ap (λ (k : ℕ). turned_back k z) none
  where
    none : i + 0 ≡ i
    none = omega arith
turned_on i (suc s) z = ap (λ (k : ℕ). turned_back k z) more ∙ ap back (turned_on i s z)
  where
    more : i + suc s ≡ suc (i + s)
    more = omega arith

turned_as : (i r : ℕ) (z : ℤ × ℤ) → i % 4 ≡ r → turned_back i z ≡ turned_back r z
turned_as i r z e = by_remainder i z ∙ ap (λ (k : ℕ). turned_back k z) e

-- turned, a number has no larger part than before
pub turned_size : (i k : ℕ) (z : ℤ × ℤ) → nat_abs z.0 ≤ k → nat_abs z.1 ≤ k → (nat_abs (turned_back i z).0 ≤ k) × (nat_abs (turned_back i z).1 ≤ k)
unfolding turned_back
turned_size zero k z p q = (p, q)
turned_size (suc i) k z p q = let t = turned_size i k z p q in (t.1, omega (arith, size_minus (turned_back i z).0, t.0))

-- ---- two sums, turned: a and b are the floats of A and B
module _ (A B : ℤ) (a b : Float) (by : ℕ) (ea : a ≡ of_int binary32 A) (eb : b ≡ of_int binary32 B) (la : nat_abs A ≤ 1048064) (lb : nat_abs B ≤ 1048064) where
  sums_are : (x y : Float) (z : ℤ × ℤ) → turned_back by (A, B) ≡ z → x ≡ of_int binary32 z.0 → y ≡ of_int binary32 z.1 → (record { re = x; im = y }) ≡ sums_of (turned_back by (A, B))
  unfolding sums_of
  sums_are x y z e p q = (λ j. record { re = p j; im = q j }) ∙ ap sums_of (sym e)

  -- 0.0 less a sum: the sum with the other sign, and never minus zero
  less : (C : ℤ) (c : Float) → c ≡ of_int binary32 C → nat_abs C ≤ 1048064 → sub binary32 (of_bits binary32 0) c ≡ of_int binary32 (neg_ℤ C)
  less C c e l =
      ap (λ (x : Float). sub binary32 x c) zero_plain.0
      ∙ ap (λ (x : Float). sub binary32 (of_int binary32 (pos 0)) x) e
      ∙ difference_exact binary32 (of_int binary32 C) (pos 0) C (omega arith) (whole_is binary32 C (omega arith))
      ∙ ap (of_int binary32) (+ℤ_idl (neg_ℤ C))

  pub turned_0 : by % 4 ≡ 0 → (record { re = a; im = b }) ≡ sums_of (turned_back by (A, B))
  unfolding turned_back
  turned_0 e = sums_are a b (A, B) (turned_as by 0 (A, B) e) ea eb

  pub turned_1 : by % 4 ≡ 1 → (record { re = b; im = sub binary32 (of_bits binary32 0) a }) ≡ sums_of (turned_back by (A, B))
  unfolding turned_back
  turned_1 e = sums_are b (sub binary32 (of_bits binary32 0) a) (B, neg_ℤ A) (turned_as by 1 (A, B) e) eb (less A a ea la)

  pub turned_2 : by % 4 ≡ 2 → (record { re = sub binary32 (of_bits binary32 0) a; im = sub binary32 (of_bits binary32 0) b }) ≡ sums_of (turned_back by (A, B))
  unfolding turned_back
  turned_2 e = sums_are (sub binary32 (of_bits binary32 0) a) (sub binary32 (of_bits binary32 0) b) (neg_ℤ A, neg_ℤ B) (turned_as by 2 (A, B) e) (less A a ea la) (less B b eb lb)

  pub turned_3 : by % 4 ≡ 3 → (record { re = sub binary32 (of_bits binary32 0) b; im = a }) ≡ sums_of (turned_back by (A, B))
  unfolding turned_back
  turned_3 e = sums_are (sub binary32 (of_bits binary32 0) b) a (neg_ℤ B, neg_ℤ (neg_ℤ A)) (turned_as by 3 (A, B) e) (less B b eb lb) (ea ∙ ap (of_int binary32) (sym (neg_ℤ-neg_ℤ A)))

-- ---- the samples, four places a turn of the loop
pub four_places : (i count : ℕ) → i < count → i % 4 ≡ 0 → count % 4 ≡ 0 → i + 4 ≤ count
four_places i count h e f = omega arith

pub four_lengths : (l : List Float) (i j k m n : ℕ) (a b c d : Float) → length l ≡ n → length (set (set (set (set l i a) j b) k c) m d) ≡ n
four_lengths l i j k m n a b c d e =
    length-set (set (set (set l i a) j b) k c) m d ∙ length-set (set (set l i a) j b) k c ∙ length-set (set l i a) j b ∙ length-set l i a ∙ e

-- a float that is a sample, of this whole number
abbrev Good : Float → ℤ → Type 0
Good x z = T (is_sample x) × (sample_of x ≡ z)

plain : (x : Float) (z : ℤ) → T (is_sample x) → sample_of x ≡ z → Good x z
plain x z t e = (t, e)

minus : (x : Float) (z : ℤ) → T (is_sample x) → sample_of x ≡ z → Good (neg x) (neg_ℤ z)
minus x z t e =
    let w = minus_whole x (sample_of x) (sample_is x t) in
    (subst T (sym (is_one (neg x) (neg_ℤ (sample_of x)) w (omega (arith, size_minus (sample_of x), sample_size x t)))) tt, reads (neg x) (neg_ℤ (sample_of x)) w ∙ ap neg_ℤ e)

-- one store more
pub store : (P : ℕ → Float → Type 0) (l : List Float) (i : ℕ) (x : Float) → i < length l → ((m : ℕ) → m < i → P m (get_or l m nan)) → P i x → (m : ℕ) → m < i + 1 → P m (get_or (set l i x) m nan)
store P l i x room before here m h =
    elim (eq-or-lt_of_le (le m h)) [
      | inl same ↦ subst (λ (k : ℕ). P k (get_or (set l i x) k nan)) (sym same) (subst (λ (y : Float). P i y) (sym (get_or-set_same l i x nan room)) here)
      | inr less ↦ subst (λ (y : Float). P m y) (sym (get_or-set_other l i m x nan (λ same. absurd (omega arith)))) (before m less)
    ]
  where
    le : (m : ℕ) → m < i + 1 → m ≤ i
    le m h = omega arith

four_stores : (P : ℕ → Float → Type 0) (l : List Float) (i : ℕ) (a b c d : Float) → i + 3 < length l → ((m : ℕ) → m < i → P m (get_or l m nan)) → P i a → P (i + 1) b → P (i + 2) c → P (i + 3) d
    → (m : ℕ) → m < i + 4 → P m (get_or (set (set (set (set l i a) (i + 1) b) (i + 2) c) (i + 3) d) m nan)
four_stores P l i a b c d room before pa pb pc pd =
    let l1 = set l i a in
    let l2 = set l1 (i + 1) b in
    let l3 = set l2 (i + 2) c in
    let n1 : length l1 ≡ length l = length-set l i a in
    let n2 : length l2 ≡ length l = length-set l1 (i + 1) b ∙ n1 in
    let n3 : length l3 ≡ length l = length-set l2 (i + 2) c ∙ n2 in
    let s1 = store P l i a (omega arith) before pa in
    let s2 = store P l1 (i + 1) b (omega arith) s1 pb in
    let s3 = store P l2 (i + 2) c (omega arith) (λ m h. s2 m (omega arith)) pc in
    let s4 = store P l3 (i + 3) d (omega arith) (λ m h. s3 m (omega arith)) pd in
    λ m h. s4 m (omega arith)

module _ (row : List Float) (count : ℕ) (samples : Samples row (2 * count)) (i : ℕ) (four : i % 4 ≡ 0) (room : i + 4 ≤ count) where
  at : (m r : ℕ) → (m + 1) % 4 ≡ r → turned_back (m + 1) (sample_at row (m + 1)) ≡ turned_back r (sample_of (get_or row (2 * m) nan), sample_of (get_or row (2 * m + 1) nan))
  unfolding sample_at
  at m r e =
      let first : 2 * (m + 1) - 2 ≡ 2 * m = omega arith in
      let second : 2 * (m + 1) - 1 ≡ 2 * m + 1 = omega arith in
      turned_as (m + 1) r (sample_at row (m + 1)) e
      ∙ ap (λ (k : ℕ). turned_back r (sample_of (get_or row k nan), sample_of (get_or row (2 * (m + 1) - 1) nan))) first
      ∙ ap (λ (k : ℕ). turned_back r (sample_of (get_or row (2 * m) nan), sample_of (get_or row k nan))) second

  sample : (k : ℕ) → k < 2 * i + 8 → T (is_sample (get_or row k nan))
  sample k h = samples.all k (omega arith)

  whole : (k m : ℕ) → k ≡ m → sample_of (get_or row k nan) ≡ sample_of (get_or row m nan)
  whole k m e = ap (λ (n : ℕ). sample_of (get_or row n nan)) e

  abbrev Real : ℕ → Float → Type 0
  Real m x = Good x (turned_back (m + 1) (sample_at row (m + 1))).0

  abbrev Imaginary : ℕ → Float → Type 0
  Imaginary m x = Good x (turned_back (m + 1) (sample_at row (m + 1))).1

  real : (m r : ℕ) (x : Float) → (m + 1) % 4 ≡ r → Good x (turned_back r (sample_of (get_or row (2 * m) nan), sample_of (get_or row (2 * m + 1) nan))).0 → Real m x
  real m r x e g = (g.0, g.1 ∙ ap (λ (z : ℤ × ℤ). z.0) (sym (at m r e)))

  imaginary : (m r : ℕ) (x : Float) → (m + 1) % 4 ≡ r → Good x (turned_back r (sample_of (get_or row (2 * m) nan), sample_of (get_or row (2 * m + 1) nan))).1 → Imaginary m x
  imaginary m r x e g = (g.0, g.1 ∙ ap (λ (z : ℤ × ℤ). z.1) (sym (at m r e)))

  abbrev here : ℕ → Float
  here n = get_or row (2 * i + n) nan

  pub real_turn : (l : List Float) → count ≤ length l → ((m : ℕ) → m < i → Real m (get_or l m nan))
      → (m : ℕ) → m < i + 4 → Real m (get_or (set (set (set (set l i (here 1)) (i + 1) (neg (here 2))) (i + 2) (neg (here 5))) (i + 3) (here 6)) m nan)
  unfolding turned_back
  real_turn l long before =
      four_stores Real l i (here 1) (neg (here 2)) (neg (here 5)) (here 6) (omega arith) before
      (real i 1 _ (omega arith) (plain _ _ (sample (2 * i + 1) (omega arith)) refl))
      (real (i + 1) 2 _ (omega arith) (minus _ _ (sample (2 * i + 2) (omega arith)) (whole _ _ (omega arith))))
      (real (i + 2) 3 _ (omega arith) (minus _ _ (sample (2 * i + 5) (omega arith)) (whole _ _ (omega arith))))
      (real (i + 3) 0 _ (omega arith) (plain _ _ (sample (2 * i + 6) (omega arith)) (whole _ _ (omega arith))))

  pub imaginary_turn : (l : List Float) → count ≤ length l → ((m : ℕ) → m < i → Imaginary m (get_or l m nan))
      → (m : ℕ) → m < i + 4 → Imaginary m (get_or (set (set (set (set l i (neg (get_or row (2 * i) nan))) (i + 1) (neg (here 3))) (i + 2) (here 4)) (i + 3) (here 7)) m nan)
  unfolding turned_back
  imaginary_turn l long before =
      four_stores Imaginary l i (neg (get_or row (2 * i) nan)) (neg (here 3)) (here 4) (here 7) (omega arith) before
      (imaginary i 1 _ (omega arith) (minus _ _ (sample (2 * i) (omega arith)) refl))
      (imaginary (i + 1) 2 _ (omega arith) (minus _ _ (sample (2 * i + 3) (omega arith)) (whole _ _ (omega arith))))
      (imaginary (i + 2) 3 _ (omega arith) (plain _ _ (sample (2 * i + 4) (omega arith)) (whole _ _ (omega arith) ∙ sym (neg_ℤ-neg_ℤ _))))
      (imaginary (i + 3) 0 _ (omega arith) (plain _ _ (sample (2 * i + 7) (omega arith)) (whole _ _ (omega arith))))

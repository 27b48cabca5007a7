-- The test of a sample as the code makes it: between two ends, and the same float again once it was added to 3 * 2 ^ 22 and that was taken off. Cited by the proof of is_sample.
-- Assumes nothing.
use mathlib.Core.Path.{◌≡◌, refl, sym, ap, ◌∙◌, subst}
use mathlib.Core.Bool.{Bool, true, false, ◌&&◌, ◌||◌, beq, cond}
use mathlib.Core.Logic.{inl, inr}
use Prim.Native.Nat.{ℕ, zero, suc, ◌+◌, ◌-◌, ◌*◌, ◌^◌, ◌≤◌, ◌<◌}
use native.Mathlib.Nat.{mul-one, zero-mul, mul_right_comm, eq_of_mul-eq-mul_right, le_of_lt, le_of_mul-le-mul_right, mul-le-mul_right, eq-or-lt_of_le}
use native.Mathlib.Omega.{arith}
use lib.Dec.{T, ltb, eqb, ltb→lt, lt→ltb, eqb→eq}
use lib.IntN.{ℤ, pos, negsuc, nat_abs, ◌+ℤ◌, ◌-ℤ◌, +ℤ_comm, +ℤ-neg_ℤ_cancel}
use lib.Ieee.{Float, nan, inf, fin, binary32, up, down, round, sum, add, sub, of_int, le, eq}
use lib.Ieee.Fits.{down_pos, eq→eqb, and_i, and_l, and_r, add-fits, of_int-fits}
use lib.Ieee.Exact.{HasValue}
use lib.Ieee.Back.{whole_unique}
use Rattle.floats.specs.Whole.{is_minus, signed, IsWhole}
use Rattle.floats.proofs.Whole.{whole_exact}
use Rattle.floats.proofs.Sums.{signed_size, sum_exact, difference_exact}
use Rattle.floats.proofs.Large.{Natural, large_whole}
use Rattle.samples.specs.Samples.{is_sample, sample_of}
use Rattle.samples.proofs.Reading.{sample_is, sample_size, is_one}

-- ---- tests
both_ways : (p q : Bool) → (T p → T q) → (T q → T p) → p ≡ q
both_ways true true f g = refl
both_ways true false f g = absurd (f tt)
both_ways false true f g = absurd (g tt)
both_ways false false f g = refl

or_cases : (p q : Bool) {X : Type 0} → T (p || q) → (T p → X) → (T q → X) → X
or_cases true q t f g = f tt
or_cases false q t f g = g t

or_l : (p q : Bool) → T p → T (p || q)
or_l true q t = tt
or_l false q t = elim t [ ]

or_r : (p q : Bool) → T q → T (p || q)
or_r true q t = tt
or_r false q t = t

-- ---- between the two ends
abbrev pub least : Float
least = fin true 2047 (pos 0)

abbrev pub greatest : Float
greatest = fin false 2047 (pos 0)

-- finite, and at most 2047 in size
abbrev Small : Float → Type 0
Small nan = ⊥
Small (inf s) = ⊥
Small (fin s m e) = m * up e ≤ 2047 * down e

-- a ≤ b from `<` or `=`, with the equation written either way round
from_le : (a b : ℕ) (k : Bool) → T (ltb a b || (eqb a b && k)) → a ≤ b
from_le a b k t = or_cases (ltb a b) (eqb a b && k) t (λ u. le_of_lt (ltb→lt a b u)) (λ u. same (eqb→eq a b (and_l (eqb a b) k u)))
  where
    same : a ≡ b → a ≤ b
    same e = omega arith

from_ge : (a b : ℕ) (k : Bool) → T (ltb a b || (eqb b a && k)) → a ≤ b
from_ge a b k t = or_cases (ltb a b) (eqb b a && k) t (λ u. le_of_lt (ltb→lt a b u)) (λ u. same (eqb→eq b a (and_l (eqb b a) k u)))
  where
    same : b ≡ a → a ≤ b
    same e = omega arith

to_ge : (a b : ℕ) → a ≤ b → T (ltb a b || (eqb b a && true))
to_ge a b h = elim (eq-or-lt_of_le h) [ inl e ↦ or_r (ltb a b) (eqb b a && true) (and_i (eqb b a) true (eq→eqb (sym e)) tt) | inr l ↦ or_l (ltb a b) (eqb b a && true) (lt→ltb a b l) ]

to_le : (a b : ℕ) → a ≤ b → T (ltb a b || (eqb a b && true))
to_le a b h = elim (eq-or-lt_of_le h) [ inl e ↦ or_r (ltb a b) (eqb a b && true) (and_i (eqb a b) true (eq→eqb e) tt) | inr l ↦ or_l (ltb a b) (eqb a b && true) (lt→ltb a b l) ]

small : (x : Float) → T (le least x) → T (le x greatest) → Small x
unfolding le
small nan p q = absurd p
small (inf true) p q = absurd p
small (inf false) p q = absurd q
small (fin true m e) p q = let h = from_ge (m * up e * 1) (2047 * 1 * down e) true p in omega arith
small (fin false m e) p q = let h = from_le (m * up e * 1) (2047 * 1 * down e) true q in omega arith

small_between : (x : Float) → Small x → T (le least x) × T (le x greatest)
unfolding le
small_between nan h = absurd h
small_between (inf s) h = absurd h
small_between (fin true m e) h =
    (to_ge (m * up e * 1) (2047 * 1 * down e) (omega arith), or_l (ltb 0 (m * up e * 1 + 2047 * 1 * down e)) _ (lt→ltb 0 _ (above (down e) (down_pos e))))
  where
    above : (d : ℕ) → 0 < d → 0 < m * up e * 1 + 2047 * 1 * d
    above d p = omega arith
small_between (fin false m e) h =
    (or_l (ltb 0 (2047 * 1 * down e + m * up e * 1)) _ (lt→ltb 0 _ (above (down e) (down_pos e))), to_le (m * up e * 1) (2047 * 1 * down e) (omega arith))
  where
    above : (d : ℕ) → 0 < d → 0 < 2047 * 1 * d + m * up e * 1
    above d p = omega arith

sample_small : (x : Float) → T (is_sample x) → Small x
sample_small x t = by x (sample_is x t) (sample_size x t)
  where
    by : (y : Float) → IsWhole y (sample_of x) → nat_abs (sample_of x) ≤ 2047 → Small y
    by nan w h = absurd w.value
    by (inf s) w h = absurd w.value
    by (fin s m e) w h =
        let size : nat_abs (sample_of x) ≡ w.size = ap nat_abs w.is ∙ signed_size w.minus w.size in
        let few : w.size ≤ 2047 = omega arith in
        omega (arith, w.value.1, mul-le-mul_right (down e) few)

-- ---- added to 3 * 2 ^ 22
abbrev pub anchor : Float
anchor = fin false 3 (pos 22)

anchor_is : IsWhole anchor (pos 12582912)
anchor_is = record { minus = false; size = 12582912; value = (refl, refl); is = refl }

anchor_plain : anchor ≡ of_int binary32 (pos 12582912)
unfolding of_int
anchor_plain = refl

-- a float between the two ends, added to it, is a whole number
lands : (x : Float) → Small x → Natural binary32 (add binary32 anchor x)
unfolding add sum
lands nan h = absurd h
lands (inf s) h = absurd h
lands (fin false m e) h = large_whole binary32 (3 * 2 ^ 22 * down e + m * up e * 1) (1 * down e) (omega (arith, down_pos e)) (omega arith) (omega (arith, down_pos e))
lands (fin true m e) h =
    let over : ltb (3 * 2 ^ 22 * down e) (m * up e * 1) ≡ false = not_less (omega arith) in
    subst (λ (b : Bool). Natural binary32 (cond b (round binary32 true (m * up e * 1 - 3 * 2 ^ 22 * down e) (1 * down e)) (round binary32 (false && ltb (m * up e * 1) (3 * 2 ^ 22 * down e)) (3 * 2 ^ 22 * down e - m * up e * 1) (1 * down e))))
    (sym over)
    (large_whole binary32 (3 * 2 ^ 22 * down e - m * up e * 1) (1 * down e) (omega (arith, down_pos e)) (omega arith) (omega (arith, down_pos e)))
  where
    not_less : m * up e * 1 ≤ 3 * 2 ^ 22 * down e → ltb (3 * 2 ^ 22 * down e) (m * up e * 1) ≡ false
    not_less l = both_ways _ false (λ t. absurd (by (ltb→lt _ _ t))) (λ t. absurd t)
      where
        by : 3 * 2 ^ 22 * down e < m * up e * 1 → ⊥
        by k = omega arith

-- so what is left once that is taken off is a whole number
abbrev pub again : Float → Float
again x = sub binary32 (add binary32 anchor x) anchor

again_whole : (x : Float) (h : Small x) → again x ≡ of_int binary32 (pos (lands x h).number -ℤ pos 12582912)
again_whole x h =
    let n = lands x h in
    let plain : add binary32 anchor x ≡ of_int binary32 (pos n.number) =
    whole_unique binary32 _ _ false n.number (add-fits binary32 anchor x) (of_int-fits binary32 (pos n.number)) n.value (whole_exact binary32 (pos n.number) n.few) in
    ap (λ (y : Float). sub binary32 y anchor) plain ∙ difference_exact binary32 anchor (pos n.number) (pos 12582912) n.few anchor_is

-- and of a sample it is the sample's whole number
again_sample : (x : Float) → T (is_sample x) → again x ≡ of_int binary32 (sample_of x)
again_sample x t =
    let z = sample_of x in
    ap (λ (y : Float). sub binary32 (add binary32 y x) anchor) anchor_plain
    ∙ ap (λ (y : Float). sub binary32 y anchor) (sum_exact binary32 x (pos 12582912) z (omega arith) (sample_is x t))
    ∙ difference_exact binary32 anchor (pos 12582912 +ℤ z) (pos 12582912) (size z (sample_size x t)) anchor_is
    ∙ ap (of_int binary32) (ap (λ (y : ℤ). y -ℤ pos 12582912) (+ℤ_comm (pos 12582912) z) ∙ +ℤ-neg_ℤ_cancel z (pos 12582912))
  where
    size : (z : ℤ) → nat_abs z ≤ 2047 → nat_abs (pos 12582912 +ℤ z) ≤ 2 ^ 24
    size (pos n) h = omega arith
    size (negsuc n) h = by (ltb 12582912 (suc n))
      where
        by : (b : Bool) → nat_abs (cond b (negsuc (suc n - suc 12582912)) (pos (12582912 - suc n))) ≤ 2 ^ 24
        by true = omega arith
        by false = omega arith

-- ---- a whole number's float equals x just where x is that number
eqb_scale : (a b c : ℕ) → 0 < c → eqb (a * c) (b * c) ≡ eqb a b
eqb_scale a b c h =
    both_ways (eqb (a * c) (b * c)) (eqb a b) (λ t. eq→eqb (eq_of_mul-eq-mul_right c h a b (eqb→eq (a * c) (b * c) t))) (λ t. eq→eqb (ap (λ (z : ℕ). z * c) (eqb→eq a b t)))

level_is : (y : Float) (t : Bool) (q : ℕ) (s : Bool) (m : ℕ) (e : ℤ) → HasValue y t q 1 → eq y (fin s m e) ≡ (eqb (q * down e) (m * up e) && (beq t s || eqb (q * down e) 0))
unfolding eq
level_is nan t q s m e v = absurd v
level_is (inf p) t q s m e v = absurd v
level_is (fin p n d) t q s m e v =
    let k : n * up d * down e ≡ q * down e * down d = ap (λ (z : ℕ). z * down e) (sym (mul-one (n * up d)) ∙ v.1) ∙ mul_right_comm q (down d) (down e) in
    let z : 0 * down d ≡ 0 = zero-mul (down d) in
    let a : eqb (n * up d * down e) (m * up e * down d) ≡ eqb (q * down e) (m * up e) = ap (λ (z : ℕ). eqb z (m * up e * down d)) k ∙ eqb_scale (q * down e) (m * up e) (down d) (down_pos d) in
    let b : eqb (n * up d * down e) 0 ≡ eqb (q * down e) 0 =
    ap (λ (z : ℕ). eqb z 0) k ∙ ap (λ (o : ℕ). eqb (q * down e * down d) o) (sym z) ∙ eqb_scale (q * down e) 0 (down d) (down_pos d) in
    cc (a, b, v.0)

-- a small float that equals a whole number's is a sample
equal_sample : (x : Float) (z : ℤ) → nat_abs z ≤ 2 ^ 24 → Small x → T (eq (of_int binary32 z) x) → T (is_sample x)
equal_sample nan z b h t = absurd h
equal_sample (inf s) z b h t = absurd h
equal_sample (fin s m e) z b h t =
    let v = whole_exact binary32 z b in
    let both = subst T (level_is (of_int binary32 z) (is_minus z) (nat_abs z) s m e v) t in
    let same : nat_abs z * down e ≡ m * up e = eqb→eq (nat_abs z * down e) (m * up e) (and_l (eqb (nat_abs z * down e) (m * up e)) _ both) in
    let whole : IsWhole (fin s m e) (signed s (nat_abs z)) = record { minus = s; size = nat_abs z; value = (refl, mul-one (m * up e) ∙ sym same); is = refl } in
    subst T (sym (is_one (fin s m e) (signed s (nat_abs z)) whole (fits same))) tt
  where
    few : (n : ℕ) → n ≤ 2047 → nat_abs (signed s n) ≤ 2047
    few n l = omega (arith, signed_size s n)

    fits : nat_abs z * down e ≡ m * up e → nat_abs (signed s (nat_abs z)) ≤ 2047
    fits same = let times : nat_abs z * down e ≤ 2047 * down e = omega (arith, h, same) in few (nat_abs z) (le_of_mul-le-mul_right times (down_pos e))

-- ---- the whole test
pub test_is : (x : Float) → (le least x && (le x greatest && eq (again x) x)) ≡ is_sample x
test_is x = both_ways _ (is_sample x) found given
  where
    found : T (le least x && (le x greatest && eq (again x) x)) → T (is_sample x)
    found t =
        let low = and_l (le least x) _ t in
        let rest = and_r (le least x) _ t in
        let h = small x low (and_l (le x greatest) _ rest) in
        let equal = and_r (le x greatest) (eq (again x) x) rest in
        equal_sample x _ (bounded (lands x h).number (lands x h).few) h (subst (λ (y : Float). T (eq y x)) (again_whole x h) equal)
      where
        bounded : (n : ℕ) → n ≤ 2 ^ 24 → nat_abs (pos n -ℤ pos 12582912) ≤ 2 ^ 24
        bounded n l = by (ltb n 12582912)
          where
            by : (b : Bool) → nat_abs (cond b (negsuc (12582912 - suc n)) (pos (n - 12582912))) ≤ 2 ^ 24
            by true = omega arith
            by false = omega arith

    given : T (is_sample x) → T (le least x && (le x greatest && eq (again x) x))
    given t =
        let ends = small_between x (sample_small x t) in
        and_i (le least x) _ ends.0 (and_i (le x greatest) _ ends.1 (subst (λ (y : Float). T (eq y x)) (sym (again_sample x t)) (itself x (sample_is x t) (sample_size x t))))
      where
        itself : (y : Float) → IsWhole y (sample_of x) → nat_abs (sample_of x) ≤ 2047 → T (eq (of_int binary32 (sample_of x)) y)
        itself nan w h = absurd w.value
        itself (inf s) w h = absurd w.value
        itself (fin s m e) w h =
            let z = sample_of x in
            subst T (sym (level_is (of_int binary32 z) (is_minus z) (nat_abs z) s m e (whole_exact binary32 z (omega arith))))
            (and_i (eqb (nat_abs z * down e) (m * up e)) _ (eq→eqb (ap (λ (n : ℕ). n * down e) (ap nat_abs w.is ∙ signed_size w.minus w.size) ∙ sym (sym (mul-one (m * up e)) ∙ w.value.1)))
            (like z w.minus w.size w.value.0 w.is))
          where
            like : (z : ℤ) (t : Bool) (n : ℕ) → s ≡ t → z ≡ signed t n → T (beq (is_minus z) s || eqb (nat_abs z * down e) 0)
            like z t n p q = subst (λ (b : Bool). T (beq (is_minus z) b || eqb (nat_abs z * down e) 0)) (sym p) (subst (λ (y : ℤ). T (beq (is_minus y) t || eqb (nat_abs y * down e) 0)) (sym q) (by t n))
              where
                by : (t : Bool) (n : ℕ) → T (beq (is_minus (signed t n)) t || eqb (nat_abs (signed t n) * down e) 0)
                by false n = tt
                by true zero = eq→eqb (zero-mul (down e))
                by true (suc n) = tt

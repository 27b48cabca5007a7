-- Whole numbers as floats: up to 2 ^ prec, which is 2 ^ 24 for f32, the float of a whole number is that number, nothing rounded. Once, over the format.
-- Cited by the crates signal_card, samples, correlation, hearing, mqarbset_answers and facts. Assumes nothing.
use mathlib.Core.Path.{◌≡◌, refl, sym, ap, ◌∙◌, subst}
use mathlib.Core.Bool.{Bool, true, false, not, true≢false}
use Prim.Native.Nat.{ℕ, zero, suc, ◌*◌, ◌^◌, ◌≤◌, ◌<◌}
use native.Mathlib.Nat.{zero-lt-suc, mul-pos}
use native.Mathlib.Omega.{arith}
use lib.Dec.{T}
use lib.IntN.{ℤ, pos, negsuc, neg_ℤ, nat_abs}
use lib.Ieee.{Float, nan, inf, fin, Format, binary32, prec, up, down, top, neg, of_int, of_bits, to_bits, is_nan}
use lib.Ieee.Fits.{down_pos, neg-fits, of_int-fits}
use lib.Ieee.Exact.{HasValue}
use lib.Ieee.Back.{round_whole, whole_unique}
use lib.Ieee.Bits.{to_bits-of_bits}
use Rattle.floats.specs.Whole.{is_minus}

-- the float of a whole number is finite, has its sign and is just as large
pub whole_exact : (f : Format) (z : ℤ) → nat_abs z ≤ 2 ^ prec f → HasValue (of_int f z) (is_minus z) (nat_abs z) 1
unfolding of_int
whole_exact f (pos n) h = round_whole f false n h
whole_exact f (negsuc n) h = round_whole f true (suc n) h

-- the same, for what follows in this file
exact : (f : Format) (z : ℤ) → nat_abs z ≤ 2 ^ prec f → HasValue (of_int f z) (is_minus z) (nat_abs z) 1
unfolding of_int
exact f (pos n) h = round_whole f false n h
exact f (negsuc n) h = round_whole f true (suc n) h

pub value_negated : (x : Float) (s : Bool) (a : ℕ) → HasValue x s a 1 → HasValue (neg x) (not s) a 1
unfolding neg
value_negated nan s a v = absurd v
value_negated (inf p) s a v = absurd v
value_negated (fin p m e) s a v = (ap not v.0, v.1)

-- a positive whole number's float, negated, is that of the negative number; of zero it would be minus zero
pub whole_negated : (f : Format) (n : ℕ) → 1 ≤ n → n ≤ 2 ^ prec f → neg (of_int f (pos n)) ≡ of_int f (neg_ℤ (pos n))
whole_negated f zero l h = absurd (none l)
  where
    none : 1 ≤ 0 → ⊥
    none k = omega arith
whole_negated f (suc n) l h =
    whole_unique f (neg (of_int f (pos (suc n)))) (of_int f (negsuc n)) true (suc n)
    (neg-fits f (of_int f (pos (suc n))) (of_int-fits f (pos (suc n))))
    (of_int-fits f (negsuc n))
    (value_negated (of_int f (pos (suc n))) false (suc n) (exact f (pos (suc n)) h))
    (exact f (negsuc n) h)

-- the float of zero is plain zero: no bit of it is set
pub zero_plain : (of_bits binary32 0 ≡ of_int binary32 (pos 0)) × (to_bits binary32 (of_int binary32 (pos 0)) ≡ 0)
unfolding of_bits of_int to_bits
zero_plain = (refl, refl)

-- no whole number's float is minus zero
pub never_minus_zero : (f : Format) (z e : ℤ) → nat_abs z ≤ 2 ^ prec f → of_int f z ≡ fin true 0 e → ⊥
never_minus_zero f (pos n) e h p = true≢false (subst (λ (x : Float). HasValue x false n 1) p (exact f (pos n) h)).0
never_minus_zero f (negsuc n) e h p = over (subst (λ (x : Float). HasValue x true (suc n) 1) p (exact f (negsuc n) h)).1 (mul-pos (zero-lt-suc n) (down_pos e))
  where
    over : 0 * up e * 1 ≡ suc n * down e → 0 < suc n * down e → ⊥
    over q l = let z : 0 * up e ≡ 0 = omega arith in omega arith

-- two patterns of bits that are read as one value are one pattern, but for a NaN, which has many: what is promised of a float that is no NaN is promised of its bits
pub one_pattern : (f : Format) (m n : ℕ) → m < 2 * top f → n < 2 * top f → T (not (is_nan (of_bits f m))) → of_bits f m ≡ of_bits f n → m ≡ n
one_pattern f m n a b h e =
    sym (to_bits-of_bits f m a h) ∙ ap (to_bits f) e ∙ to_bits-of_bits f n b (subst (λ (x : Float). T (not (is_nan x))) e h)

-- From 2 ^ (prec - 1) on a format has whole numbers only: what lies between there and 2 ^ prec is rounded to one. Once, over the format.
-- Cited by the crate samples, whose test of a fraction rests on it. Assumes nothing.
use mathlib.Core.Path.{◌≡◌, sym, ap, ◌∙◌, subst}
use mathlib.Core.Bool.{false}
use Prim.Native.Nat.{ℕ, suc, ◌+◌, ◌-◌, ◌*◌, ◌/◌, ◌%◌, ◌^◌, ◌≤◌, ◌<◌, compare}
use native.Mathlib.Nat.{mul-one, mul_assoc, mul_comm, mul-pos, mul-le-mul_right, mul-lt-mul_of_pos_right, eq_of_mul-eq-mul_right, lt_of_lt_of_le, lt_of_le_of_lt, lt_of_not-le, not-le_of_lt, le-div_iff_mul-le, div-lt_iff_lt-mul}
use native.Mathlib.Omega.{arith}
use lib.Dec.{lit<}
use lib.Pow.{pow_pos, pow-add, pow-lt, pow_mono}
use lib.Ieee.{Float, nan, inf, fin, Format, binary32, binary64, prec, emax, low, up, down, nearest, units, size, round}
use lib.Ieee.Digits.{size-le, size-lt}
use lib.Ieee.Exact.{HasValue, units_val}
use lib.Ieee.Fits.{nearest-le, core, round_is}

-- a float that is a whole number up to 2 ^ prec, with no minus sign
pub record Natural (f : Format) (x : Float) : Type 0 where
  pub number : ℕ
  pub few : number ≤ 2 ^ prec f
  pub value : HasValue x false number 1

-- a value in units of 2 ^ -l that is so many times 2 ^ l
in_ones : (x : Float) (q l : ℕ) → HasValue x false (q * 2 ^ l) (2 ^ l) → HasValue x false q 1
in_ones nan q l v = absurd v
in_ones (inf s) q l v = absurd v
in_ones (fin s m e) q l v =
    (v.0, mul-one (m * up e) ∙ eq_of_mul-eq-mul_right (2 ^ l) (pow_pos l) (m * up e) (q * down e) (v.1 ∙ mul_assoc q (2 ^ l) (down e) ∙ ap (λ (n : ℕ). q * n) (mul_comm (2 ^ l) (down e)) ∙ sym (mul_assoc q (down e) (2 ^ l))))

module _ (f : Format) (num den : ℕ) (some : 0 < den) (at_least_lem : 2 ^ (prec f - 1) * den ≤ num) (below : num < 2 ^ prec f * den) where
  abbrev n : ℕ
  n = num * 2 ^ low f

  turned : (a b c : ℕ) → a * b * c ≡ a * c * b
  turned a b c = mul_assoc a b c ∙ ap (λ (z : ℕ). a * z) (mul_comm b c) ∙ sym (mul_assoc a c b)

  -- so many digits, of which the last `low` are dropped
  upper : n / den < 2 ^ (prec f + low f)
  upper =
      (div-lt_iff_lt-mul some).1
      (subst (λ (z : ℕ). n < z) (turned (2 ^ prec f) den (2 ^ low f) ∙ ap (λ (z : ℕ). z * den) (sym (pow-add 2 (prec f) (low f)))) (mul-lt-mul_of_pos_right below (pow_pos (low f))))

  lower : 2 ^ (prec f - 1 + low f) ≤ n / den
  lower =
      (le-div_iff_mul-le some).1
      (subst (λ (z : ℕ). z ≤ n) (turned (2 ^ (prec f - 1)) den (2 ^ low f) ∙ ap (λ (z : ℕ). z * den) (sym (pow-add 2 (prec f - 1) (low f)))) (mul-le-mul_right (2 ^ low f) at_least_lem))

  dropped : size (n / den) - prec f ≡ low f
  dropped =
      let high = size-le (n / den) (prec f + low f) upper in
      let far : prec f - 1 + low f < size (n / den) = lt_of_not-le (λ (g : size (n / den) ≤ prec f - 1 + low f). not-le_of_lt (lt_of_lt_of_le (size-lt (n / den)) (pow_mono g)) lower) in
      by (prec f) (size (n / den)) (low f) (digits f) high far
    where
      digits : (f : Format) → 0 < prec f
      digits binary32 = lit< tt
      digits binary64 = lit< tt

      by : (p s l : ℕ) → 0 < p → s ≤ p + l → p - 1 + l < s → s - p ≡ l
      by p s l d h k = omega arith

  abbrev q : ℕ
  q = nearest (n / (den * 2 ^ low f)) (compare (n % (den * 2 ^ low f) * 2) (den * 2 ^ low f))

  q_few : q ≤ 2 ^ prec f
  q_few =
      let quotient : n / (den * 2 ^ low f) < 2 ^ prec f =
      (div-lt_iff_lt-mul (mul-pos some (pow_pos (low f)))).1 (subst (λ (z : ℕ). n < z) (mul_assoc (2 ^ prec f) den (2 ^ low f)) (mul-lt-mul_of_pos_right below (pow_pos (low f)))) in
      omega (arith, nearest-le (n / (den * 2 ^ low f)) (compare (n % (den * 2 ^ low f) * 2) (den * 2 ^ low f)))

  finite : q * 2 ^ low f < 2 ^ (low f + suc (emax f))
  finite = lt_of_le_of_lt (subst (λ (z : ℕ). q * 2 ^ low f ≤ z) (sym (pow-add 2 (prec f) (low f))) (mul-le-mul_right (2 ^ low f) q_few)) (pow-lt (room f))
    where
      room : (f : Format) → prec f + low f < low f + suc (emax f)
      room binary32 = lit< tt
      room binary64 = lit< tt

  is_units : round f false num den ≡ units f false q (low f)
  is_units = round_is f false num den ∙ ap (core f false n den) dropped

  pub large_whole : Natural f (round f false num den)
  large_whole =
      record {
        number = q;
        few = q_few;
        value = in_ones (round f false num den) q (low f) (subst (λ (x : Float). HasValue x false (q * 2 ^ low f) (2 ^ low f)) (sym is_units) (units_val f false q (low f) finite));
      }

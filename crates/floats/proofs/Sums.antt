-- The law of every step: a whole number's float, up to 2 ^ prec, plus a float that is a whole number is the float of the sum, and plain zero where the sum is zero; up to 2 ^ prec that
-- float is the sum itself (Whole.antt). Once, over the format; products and differences beside it. So while sums stay up to 2 ^ prec, each running float is its whole number,
-- whatever the order in which code adds. Cited by the crates samples, correlation and hearing. Assumes nothing.
use mathlib.Core.Path.{◌≡◌, refl, sym, ap, ◌∙◌, subst}
use mathlib.Core.Bool.{Bool, true, false, not, ◌&&◌, cond}
use Prim.Native.Nat.{ℕ, zero, suc, ◌+◌, ◌-◌, ◌*◌, ◌^◌, ◌≤◌, ◌<◌}
use native.Mathlib.Nat.{zero-lt-suc, mul-one, mul_assoc, mul_comm, mul-pos, mul-lt-mul_of_pos_right, mul-le-mul_right, mul-sub}
use native.Mathlib.Omega.{arith}
use lib.Dec.{T, ltb, ltb→lt, nltb→le}
use lib.IntN.{ℤ, pos, negsuc, neg_ℤ, nat_abs, ◌+ℤ◌, ◌-ℤ◌, ◌*ℤ◌, pos-*ℤ-pos, *ℤ-zero, zero-*ℤ}
use lib.Ieee.{Float, nan, inf, fin, Format, prec, up, down, unlike, round, sum, add, sub, mul, neg, of_int}
use lib.Ieee.Fits.{down_pos}
use lib.Ieee.Exact.{HasValue}
use lib.Ieee.Back.{round_whole}
use lib.Ieee.Scale.{round_same}
use Rattle.floats.specs.Whole.{is_minus, signed, IsWhole}
use Rattle.floats.proofs.Whole.{whole_exact, value_negated}

-- ---- a test, by its two answers
case : (c : Bool) (P : Bool → Type 0) → (T c → P true) → (T (not c) → P false) → P c
case true P f g = f tt
case false P f g = g tt

no_less : (a b : ℕ) → b ≤ a → ltb a b ≡ false
no_less a b h = case (ltb a b) (λ (q : Bool). q ≡ false) (λ t. absurd (over (ltb→lt a b t))) (λ t. refl)
  where
    over : a < b → ⊥
    over l = omega arith

less : (a b : ℕ) → a < b → ltb a b ≡ true
less a b h = case (ltb a b) (λ (q : Bool). q ≡ true) (λ t. refl) (λ t. absurd (over (nltb→le a b t)))
  where
    over : b ≤ a → ⊥
    over l = omega arith

-- ---- a sum over a common divisor
ltb_scale : (a b c : ℕ) → 0 < c → ltb (a * c) (b * c) ≡ ltb a b
ltb_scale a b c h =
    case (ltb a b) (λ (q : Bool). ltb (a * c) (b * c) ≡ q)
    (λ t. less (a * c) (b * c) (mul-lt-mul_of_pos_right (ltb→lt a b t) h))
    (λ t. no_less (a * c) (b * c) (mul-le-mul_right c (nltb→le a b t)))

mul_minus : (a b c : ℕ) → (a * c - b * c) * 1 ≡ (a - b) * c
mul_minus a b c =
    mul-one (a * c - b * c)
    ∙ sym (mul_comm (a - b) c ∙ mul-sub c a b ∙ ap (λ (z : ℕ). z - c * b) (mul_comm c a) ∙ ap (λ (z : ℕ). a * c - z) (mul_comm c b))

sum_scale : (f : Format) (s : Bool) (a : ℕ) (t : Bool) (b c : ℕ) → 0 < c → sum f s (a * c) t (b * c) c ≡ sum f s a t b 1
unfolding sum
sum_scale f s a t b c h =
    let one : 0 < 1 = zero-lt-suc 0 in
    let p : round f s (a * c + b * c) c ≡ round f s (a + b) 1 = round_same f s (a * c + b * c) c (a + b) 1 h one (omega arith) in
    let q : round f t (b * c - a * c) c ≡ round f t (b - a) 1 = round_same f t (b * c - a * c) c (b - a) 1 h one (mul_minus b a c) in
    let r : round f (s && ltb b a) (a * c - b * c) c ≡ round f (s && ltb b a) (a - b) 1 = round_same f (s && ltb b a) (a * c - b * c) c (a - b) 1 h one (mul_minus a b c) in
    cc (p, q, r, ltb_scale a b c h, ltb_scale b a c h)

-- the sum of two floats that are whole numbers
add_value : (f : Format) (x y : Float) (s t : Bool) (a b : ℕ) → HasValue x s a 1 → HasValue y t b 1 → add f x y ≡ sum f s a t b 1
unfolding add
add_value f nan y s t a b v w = absurd v
add_value f (inf p) y s t a b v w = absurd v
add_value f (fin p m e) nan s t a b v w = absurd w
add_value f (fin p m e) (inf q) s t a b v w = absurd w
add_value f (fin p m e) (fin q n d) s t a b v w =
    let c = down e * down d in
    let k : m * up e * down d ≡ a * c = ap (λ (z : ℕ). z * down d) (sym (mul-one (m * up e)) ∙ v.1) ∙ mul_assoc a (down e) (down d) in
    let l : n * up d * down e ≡ b * c =
    ap (λ (z : ℕ). z * down e) (sym (mul-one (n * up d)) ∙ w.1) ∙ mul_assoc b (down d) (down e) ∙ ap (λ (z : ℕ). b * z) (mul_comm (down d) (down e)) in
    let i : sum f p (m * up e * down d) q (n * up d * down e) c ≡ sum f s (a * c) t (b * c) c = cc (v.0, w.0, k, l) in
    i ∙ sum_scale f s a t b c (mul-pos (down_pos e) (down_pos d))

-- the same as a whole number
sum_whole : (f : Format) (z : ℤ) (t : Bool) (b : ℕ) → sum f (is_minus z) (nat_abs z) t b 1 ≡ of_int f (z +ℤ signed t b)
unfolding sum of_int
sum_whole f (pos a) false b = refl
sum_whole f (pos a) true zero =
    ap (λ (q : Bool). cond q (round f true (zero - a) 1) (round f false (a - zero) 1)) (no_less a zero (omega arith)) ∙ ap (λ (n : ℕ). round f false n 1) (omega arith)
sum_whole f (pos a) true (suc b) = mixed (ltb a (suc b)) (ltb→lt a (suc b))
  where
    mixed : (q : Bool) → (T q → a < suc b) → cond q (round f true (suc b - a) 1) (round f false (a - suc b) 1) ≡ of_int f (cond q (negsuc (suc b - suc a)) (pos (a - suc b)))
    mixed true h = let h' = h tt in ap (λ (n : ℕ). round f true n 1) (omega arith)
    mixed false h = refl
sum_whole f (negsuc a) false b = mixed (ltb b (suc a)) (ltb (suc a) b) (ltb→lt b (suc a)) (nltb→le b (suc a)) (ltb→lt (suc a) b) (nltb→le (suc a) b)
  where
    mixed : (q r : Bool) → (T q → b < suc a) → (T (not q) → suc a ≤ b) → (T r → suc a < b) → (T (not r) → b ≤ suc a)
        → cond r (round f false (b - suc a) 1) (round f q (suc a - b) 1) ≡ of_int f (cond q (negsuc (suc a - suc b)) (pos (b - suc a)))
    mixed true true h k l m = let h' = h tt in let l' = l tt in absurd (omega arith)
    mixed true false h k l m = let h' = h tt in ap (λ (n : ℕ). round f true n 1) (omega arith)
    mixed false true h k l m = refl
    mixed false false h k l m = let k' = k tt in let m' = m tt in ap (λ (n : ℕ). round f false n 1) (omega arith)
sum_whole f (negsuc a) true zero =
    ap (λ (n : ℕ). round f true n 1) (omega arith)
    ∙ sym (ap (λ (q : Bool). of_int f (cond q (negsuc (suc a - suc zero)) (pos (zero - suc a)))) (less zero (suc a) (omega arith)))
sum_whole f (negsuc a) true (suc b) = ap (λ (n : ℕ). round f true n 1) (omega arith)

-- ---- the law
whole_sum : (f : Format) (x : Float) (a b : ℤ) → nat_abs a ≤ 2 ^ prec f → IsWhole x b → add f (of_int f a) x ≡ of_int f (a +ℤ b)
whole_sum f x a b h w =
    add_value f (of_int f a) x (is_minus a) w.minus (nat_abs a) w.size (whole_exact f a h) w.value
    ∙ sum_whole f a w.minus w.size
    ∙ ap (λ (z : ℤ). of_int f (a +ℤ z)) (sym w.is)

pub sum_exact : (f : Format) (x : Float) (a b : ℤ) → nat_abs a ≤ 2 ^ prec f → IsWhole x b → add f (of_int f a) x ≡ of_int f (a +ℤ b)
sum_exact f x a b h w = whole_sum f x a b h w

-- the other sign
pub minus_whole : (x : Float) (z : ℤ) → IsWhole x z → IsWhole (neg x) (neg_ℤ z)
minus_whole x z w =
    record { minus = not w.minus; size = w.size; value = value_negated x w.minus w.size w.value; is = ap neg_ℤ w.is ∙ turned w.minus w.size }
  where
    turned : (s : Bool) (n : ℕ) → neg_ℤ (signed s n) ≡ signed (not s) n
    turned false n = refl
    turned true zero = refl
    turned true (suc n) = refl

pub difference_exact : (f : Format) (x : Float) (a b : ℤ) → nat_abs a ≤ 2 ^ prec f → IsWhole x b → sub f (of_int f a) x ≡ of_int f (a -ℤ b)
unfolding sub
difference_exact f x a b h w = whole_sum f (neg x) a (neg_ℤ b) h (minus_whole x b w)

-- a whole number is its size with its sign
sign_and_size : (z : ℤ) → z ≡ signed (is_minus z) (nat_abs z)
sign_and_size (pos n) = refl
sign_and_size (negsuc n) = refl

pub signed_size : (s : Bool) (n : ℕ) → nat_abs (signed s n) ≡ n
signed_size false n = refl
signed_size true zero = refl
signed_size true (suc n) = refl

-- the float of a whole number is that number
pub whole_is : (f : Format) (z : ℤ) → nat_abs z ≤ 2 ^ prec f → IsWhole (of_int f z) z
whole_is f z h = record { minus = is_minus z; size = nat_abs z; value = whole_exact f z h; is = sign_and_size z }

-- ---- products
signed_product : (s t : Bool) (a b : ℕ) → signed s a *ℤ signed t b ≡ signed (unlike s t) (a * b)
signed_product false false a b = pos-*ℤ-pos a b
signed_product false true a zero = *ℤ-zero (pos a) ∙ sym (ap (λ (n : ℕ). neg_ℤ (pos n)) none)
  where
    none : a * 0 ≡ 0
    none = omega arith
signed_product false true zero (suc b) = zero-*ℤ (negsuc b) ∙ sym (ap (λ (n : ℕ). neg_ℤ (pos n)) none)
  where
    none : 0 * suc b ≡ 0
    none = omega arith
signed_product false true (suc a) (suc b) = refl
signed_product true false zero b = zero-*ℤ (pos b) ∙ sym (ap (λ (n : ℕ). neg_ℤ (pos n)) none)
  where
    none : 0 * b ≡ 0
    none = omega arith
signed_product true false (suc a) b = refl
signed_product true true zero b = zero-*ℤ (neg_ℤ (pos b)) ∙ sym (ap pos none)
  where
    none : 0 * b ≡ 0
    none = omega arith
signed_product true true (suc a) zero = *ℤ-zero (negsuc a) ∙ sym (ap pos none)
  where
    none : suc a * 0 ≡ 0
    none = omega arith
signed_product true true (suc a) (suc b) = refl

-- a product is as large as its parts say
pub size_product : (a b : ℤ) → nat_abs (a *ℤ b) ≡ nat_abs a * nat_abs b
size_product a b =
    ap (λ (z : ℤ). nat_abs (z *ℤ b)) (sign_and_size a)
    ∙ ap (λ (z : ℤ). nat_abs (signed (is_minus a) (nat_abs a) *ℤ z)) (sign_and_size b)
    ∙ ap nat_abs (signed_product (is_minus a) (is_minus b) (nat_abs a) (nat_abs b))
    ∙ signed_size (unlike (is_minus a) (is_minus b)) (nat_abs a * nat_abs b)

mul_value : (f : Format) (x y : Float) (s t : Bool) (a b : ℕ) → HasValue x s a 1 → HasValue y t b 1 → mul f x y ≡ round f (unlike s t) (a * b) 1
unfolding mul
mul_value f nan y s t a b v w = absurd v
mul_value f (inf p) y s t a b v w = absurd v
mul_value f (fin p m e) nan s t a b v w = absurd w
mul_value f (fin p m e) (inf q) s t a b v w = absurd w
mul_value f (fin p m e) (fin q n d) s t a b v w =
    let k : m * up e ≡ a * down e = sym (mul-one (m * up e)) ∙ v.1 in
    let l : n * up d ≡ b * down d = sym (mul-one (n * up d)) ∙ w.1 in
    let i : round f (unlike p q) (m * up e * (n * up d)) (down e * down d) ≡ round f (unlike s t) (a * down e * (b * down d)) (down e * down d) = cc (v.0, w.0, k, l) in
    i ∙ round_same f (unlike s t) (a * down e * (b * down d)) (down e * down d) (a * b) 1 (mul-pos (down_pos e) (down_pos d)) (zero-lt-suc 0)
    (mul-one (a * down e * (b * down d)) ∙ crossed a (down e) b (down d))
  where
    crossed : (a c b d : ℕ) → a * c * (b * d) ≡ a * b * (c * d)
    crossed a c b d =
        mul_assoc a c (b * d)
        ∙ ap (λ (z : ℕ). a * z) (sym (mul_assoc c b d) ∙ ap (λ (z : ℕ). z * d) (mul_comm c b) ∙ mul_assoc b c d)
        ∙ sym (mul_assoc a b (c * d))

-- the product of two whole numbers, while it is at most 2 ^ prec
pub product_whole : (f : Format) (x y : Float) (a b : ℤ) → IsWhole x a → IsWhole y b → nat_abs a * nat_abs b ≤ 2 ^ prec f → IsWhole (mul f x y) (a *ℤ b)
product_whole f x y a b v w h =
    record {
      minus = unlike v.minus w.minus;
      size = v.size * w.size;
      value =
          subst (λ (z : Float). HasValue z (unlike v.minus w.minus) (v.size * w.size) 1)
          (sym (mul_value f x y v.minus w.minus v.size w.size v.value w.value))
          (round_whole f (unlike v.minus w.minus) (v.size * w.size) (subst (λ (n : ℕ). n ≤ 2 ^ prec f) sizes h));
      is = ap (λ (z : ℤ). z *ℤ b) v.is ∙ ap (λ (z : ℤ). signed v.minus v.size *ℤ z) w.is ∙ signed_product v.minus w.minus v.size w.size;
    }
  where
    sizes : nat_abs a * nat_abs b ≡ v.size * w.size
    sizes =
        ap (λ (n : ℕ). n * nat_abs b) (ap nat_abs v.is ∙ signed_size v.minus v.size)
        ∙ ap (λ (n : ℕ). v.size * n) (ap nat_abs w.is ∙ signed_size w.minus w.size)

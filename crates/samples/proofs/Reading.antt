-- A sample is the whole number that it is read as, and every whole number from -2047 to 2047 is a sample. Cited by the proofs of this crate and by the crates correlation, hearing and clean_copies.
-- Assumes nothing.
use mathlib.Core.Path.{◌≡◌, refl, sym, ap, ◌∙◌}
use mathlib.Core.Bool.{Bool, true, false, cond, ◌&&◌}
use Prim.Native.Nat.{ℕ, ◌*◌, ◌/◌, ◌%◌, ◌≤◌}
use native.Mathlib.Nat.{mul-one, mul-div_cancel, mul-mod_left, div-add-mod'}
use native.Mathlib.Omega.{arith}
use lib.Dec.{T, leb, eqb, leb→le, eqb→eq}
use lib.IntN.{ℤ, pos, neg_ℤ, nat_abs}
use lib.Ieee.{Float, nan, inf, fin, binary32, up, down, of_int}
use lib.Ieee.Fits.{down_pos, and_l, and_r}
use borrow.Author.Tests.{le-leb, eq-eqb}
use Rattle.floats.specs.Whole.{signed, IsWhole}
use Rattle.floats.proofs.Sums.{signed_size, whole_is}
use Rattle.samples.specs.Samples.{is_sample, sample_of}

signed_is : (s : Bool) (n : ℕ) → cond s (neg_ℤ (pos n)) (pos n) ≡ signed s n
signed_is true n = refl
signed_is false n = refl

-- a sample is the whole number that it is read as
pub sample_is : (x : Float) → T (is_sample x) → IsWhole x (sample_of x)
unfolding is_sample sample_of
sample_is nan t = absurd t
sample_is (inf s) t = absurd t
sample_is (fin s m e) t =
    let r = eqb→eq (m * up e % down e) 0 (and_l (eqb (m * up e % down e) 0) (leb (m * up e / down e) 2047) t) in
    record { minus = s; size = m * up e / down e; value = (refl, (let d = div-add-mod' (m * up e) (down e) in omega arith)); is = signed_is s (m * up e / down e) }

-- and it is no larger than 2047
pub sample_size : (x : Float) → T (is_sample x) → nat_abs (sample_of x) ≤ 2047
unfolding is_sample sample_of
sample_size nan t = absurd t
sample_size (inf s) t = absurd t
sample_size (fin s m e) t =
    let q = leb→le (m * up e / down e) 2047 (and_r (eqb (m * up e % down e) 0) (leb (m * up e / down e) 2047) t) in
    omega (arith, ap nat_abs (signed_is s (m * up e / down e)) ∙ signed_size s (m * up e / down e))

-- the whole number that a float is, is what it is read as
pub reads : (x : Float) (z : ℤ) → IsWhole x z → sample_of x ≡ z
unfolding sample_of
reads nan z w = absurd w.value
reads (inf s) z w = absurd w.value
reads (fin s m e) z w =
    let k : m * up e ≡ w.size * down e = sym (mul-one (m * up e)) ∙ w.value.1 in
    signed_is s (m * up e / down e)
    ∙ ap (λ (n : ℕ). signed s (n / down e)) k
    ∙ ap (signed s) (mul-div_cancel w.size (down_pos e))
    ∙ ap (λ (b : Bool). signed b w.size) w.value.0
    ∙ sym w.is

-- a float that is a whole number from -2047 to 2047 is a sample
pub is_one : (x : Float) (z : ℤ) → IsWhole x z → nat_abs z ≤ 2047 → is_sample x ≡ true
unfolding is_sample
is_one nan z w h = absurd w.value
is_one (inf s) z w h = absurd w.value
is_one (fin s m e) z w h =
    let k : m * up e ≡ w.size * down e = sym (mul-one (m * up e)) ∙ w.value.1 in
    let size : nat_abs z ≡ w.size = ap nat_abs w.is ∙ signed_size w.minus w.size in
    let rest : m * up e % down e ≡ 0 = ap (λ (n : ℕ). n % down e) k ∙ mul-mod_left w.size (down e) in
    let whole : m * up e / down e ≡ w.size = ap (λ (n : ℕ). n / down e) k ∙ mul-div_cancel w.size (down_pos e) in
    let few : m * up e / down e ≤ 2047 = omega arith in
    ap (λ (b : Bool). b && leb (m * up e / down e) 2047) (eq-eqb (m * up e % down e) 0 rest) ∙ le-leb (m * up e / down e) 2047 few

-- of the float of a whole number
pub reads_whole : (z : ℤ) → nat_abs z ≤ 2047 → sample_of (of_int binary32 z) ≡ z
reads_whole z h = reads (of_int binary32 z) z (whole_is binary32 z (omega arith))

pub is_whole : (z : ℤ) → nat_abs z ≤ 2047 → is_sample (of_int binary32 z) ≡ true
is_whole z h = is_one (of_int binary32 z) z (whole_is binary32 z (omega arith)) h

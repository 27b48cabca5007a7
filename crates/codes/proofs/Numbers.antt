-- What both codes share, how far a shift goes, and the last element that is read. Cited by the proofs of this crate and of the crates elements, midambles, blocks, signal_card, classbook and facts.
-- Assumes nothing.
use mathlib.Core.Path.{◌≡◌, refl, sym, subst}
use mathlib.Core.Bool.{Bool, true, false, cond}
use Prim.Native.Nat.{ℕ, ◌+◌, ◌-◌, ◌*◌, ◌<◌, ◌≤◌}
use native.Mathlib.Nat.{mul-le-mul_right, mul-le-mul}
use native.Mathlib.Omega.{arith}
use lib.Dec.{eqb, ltb, leb, lit≤}
use borrow.Author.Tests.{leb-false}
use Rattle.codes.specs.declared.Code.{Code}
use Rattle.codes.specs.Codes.{short, long, code_of, shift_of}

-- what holds of the short code and of the long one holds of each burst type's
of_code : (P : Code → Type 0) → P short → P long → (b : Bool) → P (cond b short long)
of_code P s l true = s
of_code P s l false = l

pub of_codes : (P : Code → Type 0) → P short → P long → (burst : ℕ) → P (code_of burst)
unfolding code_of
of_codes P s l burst = of_code P s l (eqb burst 2)

-- a code's numbers are small
pub record Small (c : Code) : Type 0 where
  pub base_low : 1 ≤ c.base
  pub base_high : c.base ≤ 8
  pub step_high : c.step ≤ 64
  pub half_high : c.half ≤ 32
  pub length_high : c.length ≤ 512

pub small : (c : Code) (burst : ℕ) → c ≡ code_of burst → Small c
small c burst e =
    subst (λ (d : Code). Small d) (sym e)
    (of_codes (λ d. Small d)
    (record { base_low = lit≤ tt; base_high = lit≤ tt; step_high = lit≤ tt; half_high = lit≤ tt; length_high = lit≤ tt })
    (record { base_low = lit≤ tt; base_high = lit≤ tt; step_high = lit≤ tt; half_high = lit≤ tt; length_high = lit≤ tt })
    burst)

pub length_high : (burst : ℕ) → (code_of burst).length ≤ 512
length_high burst = (small (code_of burst) burst refl).length_high

-- the greatest shift of a code: that of user K
abbrev pub greatest : Code → ℕ
greatest c = (c.base - 1) * c.step + c.half

at_most : (a b : Bool) (x y z n : ℕ) → (a ≡ true → x ≤ n) → (a ≡ false → y ≤ n) → z ≤ n → cond a x (cond b y z) ≤ n
at_most true b x y z n hx hy hz = hx refl
at_most false true x y z n hx hy hz = hy refl
at_most false false x y z n hx hy hz = hz

pub shift_within : (c : Code) (k : ℕ) → 1 ≤ k → shift_of c k ≤ greatest c
unfolding shift_of
shift_within c k h =
    at_most (leb k c.base) (ltb k (2 * c.base)) _ _ _ _
    (λ t. le (omega arith))
    (λ t. let l : c.base < k = leb-false _ _ t in more (omega arith))
    (omega arith)
  where
    le : {a : ℕ} → a ≤ c.base - 1 → a * c.step ≤ greatest c
    le {a} g = let m = mul-le-mul_right c.step g in omega arith

    more : {a : ℕ} → a ≤ c.base - 1 → a * c.step + c.half ≤ greatest c
    more {a} g = let m = mul-le-mul_right c.step g in omega arith

-- the last element that a midamble reads: "939 (long) or 416 (short)"
abbrev pub last_of : Code → ℕ
last_of c = c.length + greatest c

pub reads_within : (c : Code) (k i : ℕ) → 1 ≤ k → i ≤ c.length → i + shift_of c k ≤ last_of c
reads_within c k i h l = omega (arith, shift_within c k h)

pub last_elements : (last_of long ≡ 939) × (last_of short ≡ 416)
last_elements = (refl, refl)

-- no shift is beyond 480
pub shift_low : (burst k : ℕ) → 1 ≤ k → shift_of (code_of burst) k ≤ 480
shift_low burst k h =
    let c = code_of burst in
    let s = small c burst refl in
    let m : (c.base - 1) * c.step ≤ 7 * 64 = mul-le-mul {n₂ = 7} {m₂ = 64} (omega (arith, s.base_high)) s.step_high in
    omega (arith, shift_within c k h, s.half_high)

-- no user is shifted as far as a period
pub shift_in_period : (burst k : ℕ) → 1 ≤ k → shift_of (code_of burst) k < (code_of burst).period
shift_in_period burst k h = omega (arith, shift_within (code_of burst) k h, of_codes (λ (c : Code). greatest c < c.period) (lit≤ tt) (lit≤ tt) burst)

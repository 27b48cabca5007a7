-- `codes::shift` meets its contract: the three cases of the definition, none of whose products is large.
-- Assumes nothing.
use mathlib.Core.Path.{◌≡◌, ap, ◌∙◌}
use Prim.Native.Nat.{ℕ, ◌+◌, ◌-◌, ◌*◌, ◌^◌, ◌<◌, ◌≤◌}
use native.Mathlib.Nat.{mul-le-mul}
use native.Mathlib.Omega.{arith}
use borrow.Author.Tests.{le-leb, lt-leb, lt-ltb, le-ltb}
use Rattle.codes.specs.declared.Code.{Code}
use Rattle.codes.specs.Codes.{code_of, shift_of}
use Rattle.codes.proofs.Numbers.{small}
use Rattle.codes.proofs.shift.Goals as goal

-- a product of two small numbers fits, and so does its sum with a third
product : {a b : ℕ} → a ≤ 16 → b ≤ 64 → a * b < 2 ^ 32
product {a} {b} ha hb = let m : a * b ≤ 16 * 64 = mul-le-mul ha hb in omega arith

product-plus : {a b h : ℕ} → a ≤ 16 → b ≤ 64 → h ≤ 32 → a * b + h < 2 ^ 32
product-plus {a} {b} ha hb hh = let m : a * b ≤ 16 * 64 = mul-le-mul ha hb in omega arith

-- the three cases, of any code; and of the one that was fetched
module _ (user : ℕ) (d : Code) where
  first : user ≤ d.base → (d.base - user) * d.step ≡ shift_of d user
  unfolding shift_of
  first h = simp (le-leb user d.base h)

  between : d.base < user → user < 2 * d.base → (2 * d.base - user - 1) * d.step + d.half ≡ shift_of d user
  unfolding shift_of
  between h l = simp (lt-leb user d.base h, lt-ltb user (2 * d.base) l)

  last : d.base < user → 2 * d.base ≤ user → (d.base - 1) * d.step + d.half ≡ shift_of d user
  unfolding shift_of
  last h l = simp (lt-leb user d.base h, le-ltb user (2 * d.base) l)

  fetched : (burst : ℕ) → d ≡ code_of burst → shift_of d user ≡ shift_of (code_of burst) user
  fetched burst e = ap (λ (x : Code). shift_of x user) e

pub overflow_mul-result : goal.overflow_mul-result
overflow_mul-result c = let s = small _ _ c.code_of-c.ensures in record { fits = product (omega (arith, s.base_high)) s.step_high }

pub returns-then-user-base : goal.returns-then-user-base
returns-then-user-base c = first _ _ c.if-user-base.true ∙ fetched _ _ _ c.code_of-c.ensures

pub overflow_mul-base : goal.overflow_mul-base
overflow_mul-base c = omega (arith, (small _ _ c.code_of-c.ensures).base_high)

pub overflow_mul-result-then-user-base-2 : goal.overflow_mul-result-then-user-base-2
overflow_mul-result-then-user-base-2 c = omega (arith, (small _ _ c.code_of-c.ensures).base_high)

pub overflow_sub-result-then-user-base-2 : goal.overflow_sub-result-then-user-base-2
overflow_sub-result-then-user-base-2 c = omega arith

pub overflow_sub-result-then-user-base-2-2 : goal.overflow_sub-result-then-user-base-2-2
overflow_sub-result-then-user-base-2-2 c = omega arith

pub overflow_mul-result-then-user-base-2-2 : goal.overflow_mul-result-then-user-base-2-2
overflow_mul-result-then-user-base-2-2 c = let s = small _ _ c.code_of-c.ensures in record { fits = product (omega (arith, s.base_high)) s.step_high }

pub overflow_add-result : goal.overflow_add-result
overflow_add-result c = let s = small _ _ c.code_of-c.ensures in record { fits = product-plus (omega (arith, s.base_high)) s.step_high s.half_high }

pub returns-then-user-base-2 : goal.returns-then-user-base-2
returns-then-user-base-2 c = between _ _ c.if-user-base.false c.if-user-base-2.true ∙ fetched _ _ _ c.code_of-c.ensures

pub overflow_sub-result-2 : goal.overflow_sub-result-2
overflow_sub-result-2 c = omega (arith, (small _ _ c.code_of-c.ensures).base_low)

pub overflow_mul-result-2 : goal.overflow_mul-result-2
overflow_mul-result-2 c = let s = small _ _ c.code_of-c.ensures in record { fits = product (omega (arith, s.base_high)) s.step_high }

pub overflow_add-result-2 : goal.overflow_add-result-2
overflow_add-result-2 c = let s = small _ _ c.code_of-c.ensures in record { fits = product-plus (omega (arith, s.base_high)) s.step_high s.half_high }

pub returns : goal.returns
returns c = last _ _ c.if-user-base.false c.if-user-base-2.false ∙ fetched _ _ _ c.code_of-c.ensures

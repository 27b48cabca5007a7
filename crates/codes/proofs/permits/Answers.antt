-- `codes::permits` meets its contract: each of its cases is a line of the definition, and no two lines name one count.
-- Assumes nothing.
use mathlib.Core.Path.{◌≡◌, ap, ◌∙◌}
use mathlib.Core.Bool.{◌&&◌}
use Prim.Native.Nat.{ℕ, ◌*◌, ◌%◌, ◌≤◌}
use native.Mathlib.Omega.{arith}
use lib.Dec.{eqb, leb}
use borrow.Author.Tests.{eq-eqb, ne_eqb}
use Rattle.laws.proofs.Bools.{or_none}
use Rattle.codes.specs.declared.Code.{Code}
use Rattle.codes.specs.Codes.{code_of, permitted}
use Rattle.codes.proofs.Numbers.{small}
use Rattle.codes.proofs.permits.Goals as goal

-- the three lines, of any code; and of the one that was fetched
module _ (d : Code) (count user : ℕ) (some : 1 ≤ d.base) where
  all : count ≡ 2 * d.base → (leb 1 user && leb user (2 * d.base)) ≡ permitted d count user
  unfolding permitted
  all e =
      simp (eq-eqb _ _ e, ne_eqb count d.base (λ h. omega arith), ne_eqb (2 * count) d.base (λ h. omega arith), or_none)

  first : (count ≡ 2 * d.base → ⊥) → count ≡ d.base → (leb 1 user && leb user d.base) ≡ permitted d count user
  unfolding permitted
  first other e = simp (ne_eqb _ _ other, eq-eqb _ _ e, ne_eqb (2 * count) d.base (λ h. omega arith), or_none)

  odd : (count ≡ 2 * d.base → ⊥) → (count ≡ d.base → ⊥)
      → (leb 1 user && (eqb (2 * count) d.base && (leb user d.base && eqb (user % 2) 1))) ≡ permitted d count user
  unfolding permitted
  odd other nor = simp (ne_eqb _ _ other, ne_eqb _ _ nor)

  fetched : (burst : ℕ) → d ≡ code_of burst → permitted d count user ≡ permitted (code_of burst) count user
  fetched burst e = ap (λ (x : Code). permitted x count user) e

pub overflow_mul-full : goal.overflow_mul-full
overflow_mul-full c = omega (arith, (small _ _ c.code_of-c.ensures).base_high)

pub returns-then-count-full : goal.returns-then-count-full
returns-then-count-full c =
    let e = c.code_of-c.ensures in
    let some = (small _ _ e).base_low in
    all _ _ _ some c.if-count-full.true ∙ fetched _ _ _ some _ e

pub returns-then-count-base : goal.returns-then-count-base
returns-then-count-base c =
    let e = c.code_of-c.ensures in
    let some = (small _ _ e).base_low in
    first _ _ _ some c.if-count-full.false c.if-count-base.true ∙ fetched _ _ _ some _ e

pub returns : goal.returns
returns c =
    let e = c.code_of-c.ensures in
    let some = (small _ _ e).base_low in
    odd _ _ _ some c.if-count-full.false c.if-count-base.false ∙ fetched _ _ _ some _ e

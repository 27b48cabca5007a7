-- `leaves::leaf_at` meets its contract: index 0, which is no index, counts as 1 in the definition too.
-- Assumes nothing.
use mathlib.Core.Path.{refl, sym}
use Prim.Native.Nat.{◌-◌, ◌*◌, ◌≤◌}
use native.Mathlib.Nat.{mul-le-mul, zero-mul}
use native.Mathlib.Omega.{arith}
use Rattle.leaves.proofs.leaf_at.Goals as goal

low : (c : goal.Else-index-eq0) → (c.args.index - 1) * c.args.leaves ≤ 255 * 16
low c = mul-le-mul {n₂ = 255} {m₂ = 16} (omega arith) (omega arith)

pub overflow_mul-result : goal.overflow_mul-result
overflow_mul-result c = record { fits = omega (arith, low c) }

pub returns-then-index-eq0 : goal.returns-then-index-eq0
returns-then-index-eq0 c = (rw c.if-index-eq0.true (sym (zero-mul _)), omega arith)

pub returns-else-index-eq0 : goal.returns-else-index-eq0
returns-else-index-eq0 c = (refl, omega (arith, low c))

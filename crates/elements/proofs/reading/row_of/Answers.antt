-- `elements::reading::row_of` meets its contract: the row lies in the table.
-- Assumes nothing.
use mathlib.Core.Path.{◌≡◌, ap}
use Prim.Native.Nat.{ℕ, ◌+◌, ◌-◌, ◌*◌}
use native.Mathlib.Omega.{arith}
use lib.ListN.{take, drop}
use Rattle.elements.proofs.Rows.{row_inside}
use Rattle.elements.proofs.reading.row_of.Goals as goal

pub overflow_mul-start : goal.overflow_mul-start
overflow_mul-start c = let r = c.requires in omega (arith, row_inside _ _ _ r.0 r.3)

pub overflow_add-end : goal.overflow_add-end
overflow_add-end c = let r = c.requires in omega (arith, row_inside _ _ _ r.0 r.3)

pub slice_bounds-result-end : goal.slice_bounds-result-end
slice_bounds-result-end c = let r = c.requires in omega (arith, row_inside _ _ _ r.0 r.3)

pub returns : goal.returns
returns c = let a = c.args in let e : a.n * a.w + a.w - a.n * a.w ≡ a.w = omega arith in ap (λ (k : ℕ). take k (drop (a.n * a.w) a.t.now)) e

-- `elements::fill_long` meets its contract: the table's row is the cell's row.
-- Assumes nothing.
use native.Mathlib.Omega.{arith}
use Rattle.elements.proofs.Rows.{long_holds, filled}
use Rattle.elements.proofs.fill_long.Goals as goal

pub returns : goal.returns
returns c = filled _ _ _ (long_holds 1 _ (λ e. omega arith) c.long_table-t.ensures) _ c.requires.0 _ c.row_of.ensures _ _ _ _ c.fill_from.ensures

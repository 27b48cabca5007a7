-- `elements::fill_short` meets its contract: the table's row is the cell's row.
-- Assumes nothing.
use mathlib.Core.Path.{refl}
use Rattle.elements.proofs.Rows.{short_holds, filled}
use Rattle.elements.proofs.fill_short.Goals as goal

pub returns : goal.returns
returns c = filled _ _ _ (short_holds 2 _ (refl) c.short_table-t.ensures) _ c.requires.0 _ c.row_of.ensures _ _ _ _ c.fill_from.ensures

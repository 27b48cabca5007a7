-- `elements::chip_at` meets its contract: the burst type picks the table, and its row is the cell's row.
-- Assumes nothing.
use mathlib.Core.Path.{◌∙◌}
use native.Mathlib.Omega.{arith}
use borrow.Author.Rules.{rules}
use Rattle.elements.proofs.Rows.{short_holds, long_holds, read_at}
use Rattle.elements.proofs.chip_at.Goals as goal

pub element_in-requires : goal.element_in-requires
element_in-requires c = (search rules, omega arith)

pub returns-then-burst-eq2 : goal.returns-then-burst-eq2
returns-then-burst-eq2 c = c.element_in.ensures ∙ read_at _ _ _ (short_holds _ _ c.if-burst-eq2.true c.short_table-t.ensures) _ c.requires.0 _ c.row_of.ensures _

pub element_in-requires-2 : goal.element_in-requires-2
element_in-requires-2 c = (search rules, omega arith)

pub returns : goal.returns
returns c = c.element_in-2.ensures ∙ read_at _ _ _ (long_holds _ _ c.if-burst-eq2.false c.long_table-t.ensures) _ c.requires.0 _ c.row_of-2.ensures _

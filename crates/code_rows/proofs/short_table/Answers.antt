-- `code_rows::short_table` meets its contract: the bytes of the source are the packed digits of the printed rows, by computation.
-- Assumes nothing.
use mathlib.Core.Path.{refl}
use Rattle.code_text.specs.Rows.{short_rows}
use Rattle.code_rows.proofs.short_table.Goals as goal

pub returns : goal.returns
unfolding short_rows
returns c = refl

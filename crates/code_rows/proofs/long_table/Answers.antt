-- `code_rows::long_table` meets its contract: the bytes of the source are the packed digits of the printed rows, by computation.
-- Assumes nothing.
use mathlib.Core.Path.{refl}
use Rattle.code_text.specs.Rows.{long_rows}
use Rattle.code_rows.proofs.long_table.Goals as goal

pub returns : goal.returns
unfolding long_rows
returns c = refl

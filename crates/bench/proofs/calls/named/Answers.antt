-- `bench::calls::named` meets its contract: the first four entries of the table are the calls that change the book.
-- Assumes nothing.
use Rattle.std.proofs.Common.{◌∙◌}
use Rattle.bench.proofs.Meaning.{named_table}
use Rattle.bench.proofs.calls.named.Goals as goal

pub returns : goal.returns
returns g c = c.tabled.ensures ∙ named_table _ _ _

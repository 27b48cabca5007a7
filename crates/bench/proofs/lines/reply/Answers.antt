-- `bench::lines::reply` meets its contract: a line that is not too long has as many bytes as are gathered.
-- Assumes nothing.
use Rattle.std.proofs.Common.{refl}
use Rattle.bench.proofs.Meaning.{gathered_whole, gathered_long}
use Rattle.bench.proofs.lines.reply.Goals as goal

pub returns-then-held-line : goal.returns-then-held-line
returns-then-held-line g c = gathered_whole _ _ _ _ c.if-held-line.true c.answer.ensures

pub returns-else-held-line : goal.returns-else-held-line
returns-else-held-line g c = gathered_long _ _ _ _ c.if-held-line.false refl

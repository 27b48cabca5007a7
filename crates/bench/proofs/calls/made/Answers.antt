-- `bench::calls::made` meets its contract: a call that changes the book leaves what it answers.
-- Assumes nothing.
use Rattle.std.proofs.Common.{refl}
use Rattle.classbook.specs.Calls.{said_book}
use Rattle.bench.proofs.Meaning.{made_one, made_other}
use Rattle.bench.proofs.calls.made.Goals as goal

pub returns-then-call-lt4 : goal.returns-then-call-lt4
returns-then-call-lt4 g c = made_one _ _ _ _ (said_book c.asked-answer.result c.asked-answer.new.b) c.if-call-lt4.true c.asked-answer.ensures refl

pub returns-else-call-lt4 : goal.returns-else-call-lt4
returns-else-call-lt4 g c = made_other _ _ _ _ c.if-call-lt4.false refl

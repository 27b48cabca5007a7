-- `bench::calls::worded` meets its contract: the words are those of the call, or the book stays; `hear` never changes it.
-- Assumes nothing.
use Rattle.std.proofs.Common.{refl, lit≤}
use Rattle.bench.proofs.Meaning.{worded_other, worded_on, worded_off}
use Rattle.bench.proofs.calls.worded.Goals as goal

pub returns-then-call-eq-HEAR : goal.returns-then-call-eq-HEAR
returns-then-call-eq-HEAR g c = worded_other _ _ _ _ 11 (lit≤ tt) c.if-call-eq-HEAR.true

pub returns-in-None : goal.returns-in-None
returns-in-None g c = worded_off _ _ _ _ _ c.in-None.ensures refl

pub returns-in-Some : goal.returns-in-Some
returns-in-Some g c = worded_on _ _ _ _ _ _ c.in-Some.ensures.0 c.in-Some.ensures.1 c.made.ensures

-- `bench::calls::tabled` meets its contract: the call is in the table, or the book stays.
-- Assumes nothing.
use Rattle.std.proofs.Common.{refl}
use Rattle.bench.proofs.Meaning.{tabled_none, tabled_one}
use Rattle.bench.proofs.calls.tabled.Goals as goal

pub returns-in-None : goal.returns-in-None
returns-in-None g c = tabled_none _ _ _ _ _ c.in-None.ensures.none.0 refl

pub returns-in-Some : goal.returns-in-Some
returns-in-Some g c = tabled_one _ _ _ _ _ _ _ c.in-Some.ensures.some.1 c.in-Some.ensures.some.4 c.worded.ensures

-- `bench::calls::answer` meets its contract: the text is what stands before the comment, and its first word is the name.
-- Assumes nothing.
use Rattle.std.proofs.Common.{refl}
use Rattle.bench.proofs.Meaning.{at_bare, word_none, word_one}
use Rattle.bench.proofs.calls.answer.Goals as goal

pub returns-then-from-to : goal.returns-then-from-to
returns-then-from-to g c =
    let w = c.word-w.ensures in
    at_bare _ _ _ _ c.find-end.ensures.1 (word_none _ c.word-w.result.from c.word-w.result.to _ _ w.2 w.3 w.0 w.1 c.if-from-to.true refl)

pub returns : goal.returns
returns g c =
    let w = c.word-w.ensures in
    at_bare _ _ _ _ c.find-end.ensures.1 (word_one _ c.word-w.result.from c.word-w.result.to _ _ w.2 w.3 c.named.ensures)

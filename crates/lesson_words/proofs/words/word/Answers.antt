-- `lesson_words::words::word` meets its contract: the word stands between its first byte and the blank behind it.
-- Assumes nothing.
use native.Mathlib.Omega.{arith}
use Rattle.lesson_words.proofs.Text.{word_at, rest_at}
use Rattle.lesson_words.proofs.words.word.Goals as goal

pub returns : goal.returns
returns c =
    let a = c.word_start-from.ensures in
    let e = c.word_end-to.ensures in
    (omega (arith, e.1), e.0, word_at _ _ _ _ a.1 e.1, rest_at _ _ _ _ a.1 e.1)

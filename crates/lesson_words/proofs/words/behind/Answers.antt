-- `lesson_words::words::behind` meets its contract: word after word is passed.
-- Assumes nothing.
use native.Mathlib.Omega.{arith}
use Rattle.lesson_words.proofs.Text.{behind_start, behind_on, behind_end}
use Rattle.lesson_words.proofs.words.behind.Goals as goal

pub loop-init : goal.loop-init
loop-init c = (omega arith, behind_start _ _)

pub loop-preserved : goal.loop-preserved
loop-preserved c =
    let a = c.args in
    let l = c.loop in
    let w = c.word-at.ensures in
    (w.1, behind_on a.text.now _ a.count l.counter l.at l.invariant.1 c.word-at.result.to c.loop-test.true w.3)

pub returns : goal.returns
returns c =
    let a = c.args in
    let l = c.loop in
    (l.invariant.0, behind_end a.text.now _ a.count l.counter l.at l.invariant.1 c.loop-test.false)

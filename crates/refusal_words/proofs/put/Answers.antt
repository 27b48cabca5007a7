-- `refusal_words::put` meets its promise: a byte a turn.
-- Assumes nothing.
use mathlib.Core.Path.{refl, ◌∙◌}
use native.Mathlib.Omega.{arith}
use lib.ListN.{length-set}
use Rattle.refusal_words.proofs.Putting.{copy_turn, copied}
use Rattle.refusal_words.proofs.put.Goals as goal

pub loop-i-init : goal.loop-i-init
loop-i-init c = (refl, refl)

pub loop-i-preserved : goal.loop-i-preserved
loop-i-preserved c =
    let l = c.loop-i in
    let a = c.args in
    (length-set l.out l.i _ ∙ l.invariant.0, copy_turn a.text.now a.out.now l.out l.i (omega arith) (omega arith) l.invariant.1)

pub returns : goal.returns
returns c =
    let l = c.loop-i in
    let a = c.args in
    copied a.text.now a.out.now l.out l.i (omega arith) l.invariant.1

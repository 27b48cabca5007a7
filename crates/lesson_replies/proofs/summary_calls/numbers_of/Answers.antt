-- `lesson_replies::summary_calls::numbers_of` meets its promise: leaf by leaf.
-- Assumes nothing.
use Rattle.std.proofs.Common.{◌≡◌, ℕ, ap, ◌∙◌, arith}
use Rattle.lesson_replies.proofs.LeafDigits.{written, written_none, written_next, written_all}
use Rattle.lesson_replies.proofs.summary_calls.numbers_of.Goals as goal

pub loop-i-init : goal.loop-i-init
loop-i-init c = written_none c.args.leaves c.args.count

pub loop-i-preserved : goal.loop-i-preserved
loop-i-preserved c = written_next c.args.leaves c.args.count c.loop-i.i _ _ c.loop-i.invariant c.digit.ensures

pub returns : goal.returns
returns c =
    let e : c.loop-i.i ≡ 16 = omega (arith, c.loop-i.auto.i-end, c.loop-i-test.false) in
    c.loop-i.invariant ∙ ap (λ (n : ℕ). written c.args.leaves c.args.count n) e ∙ written_all c.args.leaves c.args.count

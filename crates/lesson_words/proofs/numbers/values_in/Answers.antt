-- `lesson_words::numbers::values_in` meets its contract: what was read is stored, and the rest is to be read.
-- Assumes nothing.
use mathlib.Core.Path.{sym, ap, ◌∙◌}
use lib.ListN.{set}
use Prim.Native.Nat.{ℕ}
use Rattle.lesson_words.specs.Numbers.{nine_of, values_of}
use Rattle.lesson_words.proofs.Reading.{values_any, values_end}
use Rattle.lesson_words.proofs.numbers.values_in.Goals as goal

pub loop-i-preserved : goal.loop-i-preserved
loop-i-preserved c =
    let a = c.args in
    let l = c.loop-i in
    let h = c.loop-i-test.true in
    let w = c.word-w in (
      w.ensures.1,
      values_any a.kinds.now a.text.now l.i l.to w.result.to _ _ h w.ensures.2 w.ensures.3 c.meant.ensures l.places _ _ (c.store.ensures ∙ ap (λ (x : ℕ). set l.places l.i x) c.unwrap_or-value.ensures) l.invariant.1,
    )

pub returns : goal.returns
unfolding values_of
returns c =
    let a = c.args in
    let l = c.loop-i in
    let h = c.loop-i-test.false in
    c.from.ensures ∙ ap nine_of (values_end a.kinds.now a.text.now l.i l.to h l.places _ l.invariant.1)

-- `lesson_words::numbers::read` meets its contract: what was read is stored, and the rest is to be read.
-- Assumes nothing.
use mathlib.Core.Path.{sym, ap, ◌∙◌}
use borrow.Author.Tests.{eq-eqb, ne_eqb}
use Rattle.lesson_words.specs.Numbers.{nine_of, values_of}
use Rattle.lesson_words.proofs.Reading.{fits_on, fits_off, values_on, fits_end, values_end}
use Rattle.lesson_words.proofs.numbers.read.Goals as goal

pub returns-in_err-value : goal.returns-in_err-value
returns-in_err-value c =
    let a = c.args in
    let l = c.loop-i in
    let w = c.word-w in
    rw c.from_residual.ensures
    (fits_off a.kinds.now a.text.now l.i l.to w.result.to _ _ c.loop-i-test.true w.ensures.2 w.ensures.3 c.meant.ensures _ c.in_err-value.was l.invariant.2)

pub loop-i-preserved : goal.loop-i-preserved
loop-i-preserved c =
    let a = c.args in
    let l = c.loop-i in
    let h = c.loop-i-test.true in
    let w = c.word-w in (
      w.ensures.0,
      w.ensures.1,
      fits_on a.kinds.now a.text.now l.i l.to w.result.to _ _ h w.ensures.2 w.ensures.3 c.meant.ensures _ _ c.in_ok-value.was l.invariant.2,
      values_on a.kinds.now a.text.now l.i l.to w.result.to _ _ h w.ensures.2 w.ensures.3 c.meant.ensures _ l.places _ _ c.in_ok-value.was c.store.ensures l.invariant.3,
    )

pub returns-then-behind-ne0 : goal.returns-then-behind-ne0
returns-then-behind-ne0 c =
    let a = c.args in
    let l = c.loop-i in
    let w = c.word-behind in
    sym (fits_end a.kinds.now a.text.now l.i l.to c.loop-i-test.false _ w.result.from w.result.to w.ensures.0 w.ensures.1 w.ensures.2 l.invariant.2) ∙ ne_eqb _ _ c.if-behind-ne0.true

pub returns : goal.returns
unfolding values_of
returns c =
    let a = c.args in
    let l = c.loop-i in
    let h = c.loop-i-test.false in
    let w = c.word-behind in (
      sym (fits_end a.kinds.now a.text.now l.i l.to h _ w.result.from w.result.to w.ensures.0 w.ensures.1 w.ensures.2 l.invariant.2) ∙ eq-eqb _ _ c.if-behind-ne0.false,
      c.from-values.ensures ∙ ap nine_of (values_end a.kinds.now a.text.now l.i l.to h l.places _ l.invariant.3),
      l.invariant.0,
      l.invariant.1,
    )

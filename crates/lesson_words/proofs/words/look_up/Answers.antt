-- `lesson_words::words::look_up` meets its contract: the entries that were passed have other names.
-- Assumes nothing.
use mathlib.Core.Path.{sym, ◌∙◌}
use native.Mathlib.Omega.{arith}
use Rattle.lesson_words.proofs.Text.{same_bytes}
use Rattle.lesson_words.proofs.Table.{number_found, number_on, kinds_found, kinds_on, number_starts, kinds_starts, number_none, kinds_none}
use Rattle.lesson_words.proofs.words.look_up.Goals as goal

pub loop-number-init : goal.loop-number-init
loop-number-init c = (omega arith, number_starts _ _ _, kinds_starts _ _ _)

pub returns-then-eq-clause-some : goal.returns-then-eq-clause-some
returns-then-eq-clause-some c =
    let a = c.args in
    let l = c.loop-number in
    let w = c.word-a in
    let k = c.word-kinds in
    let is = c.eq.ensures ∙ same_bytes _ _ in (
      c.loop-number-test.true,
      number_found a.name.now a.table.now _ l.at w.result.to k.result.to w.ensures.2 w.ensures.3 k.ensures.3 _ is a.count l.number c.loop-number-test.true _ c.if-eq.true l.invariant.1,
      k.ensures.0,
      k.ensures.1,
      k.ensures.2 ∙ kinds_found a.name.now a.table.now _ l.at w.result.to k.result.to w.ensures.2 w.ensures.3 k.ensures.3 _ is a.count l.number c.loop-number-test.true _ c.if-eq.true l.invariant.2,
    )

pub loop-number-preserved : goal.loop-number-preserved
loop-number-preserved c =
    let a = c.args in
    let l = c.loop-number in
    let w = c.word-a in
    let k = c.word-kinds in
    let is = c.eq.ensures ∙ same_bytes _ _ in (
      k.ensures.1,
      number_on a.name.now a.table.now _ l.at w.result.to k.result.to w.ensures.2 w.ensures.3 k.ensures.3 _ is a.count l.number c.loop-number-test.true _ c.if-eq.false l.invariant.1,
      kinds_on a.name.now a.table.now _ l.at w.result.to k.result.to w.ensures.2 w.ensures.3 k.ensures.3 _ is a.count l.number c.loop-number-test.true _ c.if-eq.false l.invariant.2,
    )

pub returns-clause-none : goal.returns-clause-none
returns-clause-none c =
    let a = c.args in
    let l = c.loop-number in
    (number_none a.name.now a.table.now a.count l.at l.number c.loop-number-test.false c.loop-number.auto.number-end _ l.invariant.1, sym (kinds_none a.name.now a.table.now a.count l.at l.number c.loop-number-test.false c.loop-number.auto.number-end _ l.invariant.2))

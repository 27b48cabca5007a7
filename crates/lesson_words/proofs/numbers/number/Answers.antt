-- `lesson_words::numbers::number` meets its contract. The invariant: what was passed are digits, and the digits that are left, read behind `value`, give the word's value.
-- Assumes nothing.
use mathlib.Core.Path.{refl, sym, ◌∙◌}
use native.Mathlib.Omega.{arith}
use borrow.Author.Tests.{eqb-true, eqb-false}
use Rattle.lesson_words.specs.Numbers.{is_digit}
use Rattle.lesson_words.proofs.Digits.{value_on, value_end, every_on, every_off, every_end, not_none, not_digits, not_small, is_number, grown_by, grown_small, digit_low}
use Rattle.lesson_words.proofs.numbers.number.Goals as goal

pub returns-then-is_empty : goal.returns-then-is_empty
returns-then-is_empty c = not_none _ (eqb-true _ _ (sym c.is_empty.ensures ∙ c.if-is_empty.true))

pub loop-b-init : goal.loop-b-init
loop-b-init c = (omega arith, refl, refl)

pub returns-then-not-is_digit : goal.returns-then-not-is_digit
returns-then-not-is_digit c =
    not_digits _ (every_off _ _ is_digit _ c.loop-b-test.true (sym c.is_digit.ensures ∙ c.if-not-is_digit.true) c.loop-b.invariant.2)

pub grown-requires : goal.grown-requires
grown-requires c = digit_low _ (sym c.is_digit.ensures ∙ c.if-not-is_digit.false)

pub returns-in_err-value : goal.returns-in_err-value
returns-in_err-value c =
    c.from_residual.ensures ∙ not_small _ _ _ c.loop-b-test.true c.in_err-value.ensures c.loop-b.invariant.1

pub loop-b-preserved : goal.loop-b-preserved
loop-b-preserved c =
    let l = c.loop-b in (
      grown_small _ _ c.in_ok-value.ensures,
      value_on _ _ _ _ _ c.loop-b-test.true (grown_by _ _ c.in_ok-value.ensures) l.invariant.1,
      every_on _ _ is_digit _ c.loop-b-test.true (sym c.is_digit.ensures ∙ c.if-not-is_digit.false) l.invariant.2,
    )

pub returns : goal.returns
returns c =
    let l = c.loop-b in
    is_number _ _ (eqb-false _ _ (sym c.is_empty.ensures ∙ c.if-is_empty.false)) (every_end _ _ is_digit _ c.loop-b-test.false l.invariant.2) l.invariant.0 (value_end _ _ _ _ c.loop-b-test.false l.invariant.1)

-- `lesson_words::numbers::turn` meets its contract: `down`, `up`, or neither.
-- Assumes nothing.
use mathlib.Core.Path.{sym, ap, ◌∙◌}
use Rattle.lesson_words.specs.Numbers.{value_if}
use Rattle.lesson_words.proofs.Reading.{is_down, is_up}
use Rattle.lesson_words.proofs.numbers.turn.Goals as goal

pub returns-then-eq : goal.returns-then-eq
returns-then-eq c = is_down _ _ c.as_slice.ensures _ c.eq.ensures c.if-eq.true

pub returns-then-eq-2 : goal.returns-then-eq-2
unfolding value_if
returns-then-eq-2 c = sym (ap (λ b. value_if b 0) c.if-eq-2.true) ∙ is_up _ _ c.as_slice.ensures _ c.eq.ensures c.if-eq.false _ _ c.eq-else-eq.ensures c.as_slice-else-eq.ensures

pub returns-else-eq-2 : goal.returns-else-eq-2
unfolding value_if
returns-else-eq-2 c = sym (ap (λ b. value_if b 0) c.if-eq-2.false) ∙ is_up _ _ c.as_slice.ensures _ c.eq.ensures c.if-eq.false _ _ c.eq-else-eq.ensures c.as_slice-else-eq.ensures

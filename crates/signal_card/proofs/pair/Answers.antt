-- `signal_card::pair` meets its promise: a chip that is refused is refused here, and of the level's four chips the one of the power is taken.
-- Assumes nothing.
use native.Mathlib.Omega.{arith}
use Rattle.std.proofs.lemmas.Grind.{common_steps}
use Rattle.refusals.specs.Refusals.{first_of, answer}
use Rattle.conditions.specs.Conditions.{bad_level}
use Rattle.midambles.proofs.Answers.{answer_number}
use Rattle.signal_card.specs.Calls.{pair_answer, pair_refusals}
use Rattle.signal_card.proofs.Parts.{taken_real, taken_imaginary}
use Rattle.signal_card.proofs.Answers.{chip_refused, power_low, pair_steps}
use Rattle.signal_card.proofs.pair.Goals as goal

pub returns-in_err-power : goal.returns-in_err-power
unfolding pair_answer pair_refusals
returns-in_err-power c = grind (arith, common_steps, chip_refused, answer_number)

pub returns : goal.returns
unfolding pair_answer pair_refusals bad_level first_of answer
returns c =
    let a = c.args in
    let low = power_low a.cell a.burst a.count a.user a.chip _ c.in_ok-power.ensures in
    let re = taken_real _ _ _ _ c.four_chips-four.ensures c.chip_of.ensures low in
    let im = taken_imaginary _ _ _ _ c.four_chips-four.ensures c.chip_of.ensures low in
    grind (arith, common_steps, pair_steps, re, im)

-- `signal_card::pairs` meets its promise: of the chips that were filled in, those of the midamble are the user's, and each is a power of j.
-- Assumes nothing.
use mathlib.Core.Path.{sym, ap}
use native.Mathlib.Omega.{arith}
use Rattle.std.proofs.lemmas.List.{length-take, length-take-le, get_or-take}
use Rattle.std.proofs.lemmas.Grind.{common_steps}
use Rattle.refusals.specs.Refusals.{first_of, answer, after}
use Rattle.conditions.specs.Conditions.{too_short, bad_level}
use Rattle.codes.specs.declared.Code.{Code}
use Rattle.midambles.proofs.Answers.{user_refused, answer_number, after_number, user_steps}
use Rattle.signal_card.specs.Calls.{pairs_refusals, pairs_outcome}
use Rattle.signal_card.proofs.Answers.{filled_below, run_room, chips_taken}
use Rattle.signal_card.proofs.pairs.Goals as goal

pub returns-in_err-check_user : goal.returns-in_err-check_user
unfolding pairs_outcome pairs_refusals
returns-in_err-check_user c = grind (arith, common_steps, user_refused, answer_number, after_number)

pub slice_bounds-fill-end : goal.slice_bounds-fill-end
slice_bounds-fill-end c =
    let same = ap (λ (x : Code). x.length) c.code_of-length.ensures in
    let room = run_room _ _ _ _ c.fill_chips.ensures in
    sym (length-take-le _ _ (omega arith))

pub fill-requires-clause-powers : goal.fill-requires-clause-powers
fill-requires-clause-powers c = λ k h.
    let same = ap (λ (x : Code). x.length) c.code_of-length.ensures in
    let few = length-take c.code_of-length.result.length c.fill_chips.new.out in
    let here = get_or-take c.code_of-length.result.length c.fill_chips.new.out k 0 (omega arith) in
    omega (arith, here, filled_below _ _ _ _ _ _ c.fill_chips.ensures k (omega arith))

pub returns : goal.returns
unfolding pairs_refusals pairs_outcome too_short bad_level first_of answer after
returns c =
    let a = c.args in
    let chips = chips_taken a.cell a.burst a.user _ _ _ _ c.shift-by.ensures (ap (λ (x : Code). x.length) c.code_of-length.ensures) c.fill_chips.ensures in
    grind (arith, common_steps, user_steps, chips)

-- `hearing::hear` meets its contract: what the tests leave is what the search for the loudest user asks, and what is heard in the turned samples is heard in the row. Assumes nothing.
use mathlib.Core.Path.{sym, subst, ◌∙◌}
use Prim.Native.Nat.{ℕ, ◌*◌, ◌≤◌}
use native.Mathlib.Omega.{arith}
use Rattle.std.proofs.lemmas.Grind.{common_steps}
use lib.ListN.{length}
use Rattle.refusals.specs.Refusals.{first_of, answer, number_of}
use Rattle.conditions.specs.Conditions.{bad_cell, too_short}
use Rattle.codes.specs.Codes.{code_of}
use Rattle.codes.proofs.Numbers.{length_high}
use Rattle.correlation.specs.Inside.{Turned, reach}
use Rattle.correlation.proofs.RowSigns.{reach_high, are_signs}
use Rattle.hearing.specs.Calls.{hear_refusals, hear_answer}
use Rattle.hearing.proofs.Answers.{same_heard, chips_good, turned_samples, samples_good}
use Rattle.hearing.proofs.hear.Goals as goal

pub returns-in_err-when-5 : goal.returns-in_err-when-5
unfolding hear_answer hear_refusals too_short first_of answer number_of
returns-in_err-when-5 c = grind (arith, common_steps)

pub turn-requires : goal.turn-requires
turn-requires c =
    let n = chips_good c.args.burst _ c.code_of-chips.ensures in
    record { count_bound = (n.0, n.1, n.0, n.0); count_in_bounds = (let r : 2 * c.code_of-chips.result.length ≤ length c.args.row.now = grind (arith, common_steps) in (r, samples_good _ _ (sym c.bad_samples.ensures ∙ c.in_ok-when-5.ensures.passed) r)) }

pub fill_signs-requires : goal.fill_signs-requires
unfolding bad_cell
fill_signs-requires c = (grind (arith, common_steps), reach_high _)

pub best_heard-requires : goal.best_heard-requires
best_heard-requires c =
    let a = c.args in
    let n = chips_good a.burst _ c.code_of-chips.ensures in
    let few = length_high a.burst in
    let near = reach_high a.burst in
    let two = turned_samples _ _ _ (code_of a.burst).length (subst (λ (k : ℕ). Turned a.row.now k c.turn.new.re c.turn.new.im) n.2 c.turn.ensures) in
    record {
      burst_in_bounds = (omega arith, omega arith, omega arith);
      samples = (two.0, two.1, are_signs a.cell a.burst (reach a.burst) (reach a.burst) _ c.fill_signs.ensures (omega arith));
    }

pub returns : goal.returns
unfolding hear_answer hear_refusals too_short first_of answer
returns c =
    let a = c.args in
    let n = chips_good a.burst _ c.code_of-chips.ensures in
    let same = same_heard a.cell a.burst a.count a.row.now _ _ _ (subst (λ (k : ℕ). Turned a.row.now k c.turn.new.re c.turn.new.im) n.2 c.turn.ensures) c.fill_signs.ensures in
    grind (arith, common_steps, same)

-- `seats::valid::all_blank` meets its contract: what was passed is blank, and the rest is to be tested.
-- Assumes nothing.
use mathlib.Core.Path.{refl, ap, ◌∙◌}
use mathlib.Core.Bool.{Bool, ◌&&◌}
use Prim.Native.Nat.{◌+◌}
use native.Mathlib.Omega.{arith}
use lib.Dec.{eqb}
use lib.ListN.{drop}
use Rattle.laws.specs.Lists.{every}
use Rattle.laws.proofs.Rows.{left_turn, left_ended}
use Rattle.seats.specs.Seats.{is_blank}
use Rattle.seats.proofs.Blanks.{or_zero}
use Rattle.seats.proofs.valid.all_blank.Goals as goal

pub loop-x-preserved : goal.loop-x-preserved
unfolding every
loop-x-preserved c =
    let l = c.loop-x in
    ap (λ (z : Bool). z && every is_blank (drop (l.x-index + 1) c.args.rest.now)) (or_zero l.all c.number_of-all.result)
    ∙ left_turn c.args.rest.now l.x-index (every is_blank) (λ x _. is_blank x) (λ x r. refl) _ (eqb l.all 0) (eqb c.number_of-all.result 0) _
    (omega arith) l.invariant c.number_of-all.ensures

pub returns : goal.returns
unfolding every
returns c =
    left_ended c.args.rest.now c.loop-x.x-index (every is_blank) refl (eqb c.loop-x.all 0) _ (omega arith) c.loop-x.invariant

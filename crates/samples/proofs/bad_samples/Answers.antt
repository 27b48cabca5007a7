-- `samples::bad_samples` meets its contract: at each turn `good` says whether all floats before are samples. Assumes nothing.
use mathlib.Core.Path.{ap, ◌∙◌}
use mathlib.Core.Bool.{not}
use native.Mathlib.Omega.{arith}
use lib.ListN.{take}
use lib.Seq.{take_all}
use Rattle.samples.specs.Samples.{bad_samples, is_sample}
use Rattle.laws.specs.Lists.{every}
use Rattle.samples.proofs.Front.{none_yet, one_more}
use Rattle.samples.proofs.bad_samples.Goals as goal

pub loop-x-init : goal.loop-x-init
loop-x-init c = none_yet c.args.row.now

pub loop-x-preserved : goal.loop-x-preserved
loop-x-preserved c = one_more _ c.loop-x.x-index _ _ (omega arith) c.loop-x.invariant c.is_sample-good.ensures

pub returns : goal.returns
unfolding bad_samples
returns c =
    let all = take_all c.loop-x.x-index (take c.args.count c.args.row.now) (omega arith) in
    ap not (c.loop-x.invariant ∙ ap (every is_sample) all)

-- `samples::bad_samples` meets its contract: at each turn `good` says whether all floats before are samples. Assumes nothing.
use mathlib.Core.Path.{◌≡◌}
use lib.ListN.{take}
use Rattle.samples.specs.Samples.{is_sample}
use Rattle.laws.specs.Lists.{every}
use Rattle.samples.proofs.bad_samples.Given as goal

abbrev pub invariant-loop-x : goal.invariant-loop-x
invariant-loop-x l = l.good ≡ every is_sample (take l.x-index l.x-items)

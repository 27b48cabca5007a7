-- `seats::valid::all_blank` meets its contract: what was passed is blank, and the rest is to be tested.
-- Assumes nothing.
use mathlib.Core.Path.{◌≡◌}
use mathlib.Core.Bool.{◌&&◌}
use lib.Dec.{eqb}
use lib.ListN.{drop}
use Rattle.laws.specs.Lists.{every}
use Rattle.seats.specs.Seats.{is_blank}
use Rattle.seats.proofs.valid.all_blank.Given as goal

abbrev pub invariant-loop-x : goal.invariant-loop-x
invariant-loop-x l = (eqb l.all 0 && every is_blank (drop l.x-index l.rest)) ≡ every is_blank l.rest

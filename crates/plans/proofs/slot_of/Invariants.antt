-- `plans::slot_of` meets its contract: what was summed is what those passed say.
-- Assumes nothing.
use mathlib.Core.Path.{◌≡◌}
use lib.ListN.{take}
use Rattle.slots.specs.Slots.{slot_of}
use Rattle.plans.proofs.slot_of.Given as goal

abbrev pub invariant-loop-x : goal.invariant-loop-x
invariant-loop-x l = l.made ≡ slot_of l.timeslot (take l.x-index l.list)

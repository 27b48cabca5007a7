-- `plans::slot_of` meets its contract: what was summed is what those passed say.
-- Assumes nothing.
use mathlib.Core.Path.{ap, ◌∙◌}
use Prim.Native.Nat.{◌<◌}
use native.Mathlib.Omega.{arith}
use lib.ListN.{length}
use lib.Seq.{take_all}
use Rattle.laws.specs.Lists.{every}
use Rattle.slots.specs.Slots.{slot_of}
use Rattle.slots.proofs.ByMasks.{good_code}
use Rattle.seats.specs.Seats.{blank}
use Rattle.plans.proofs.Summed.{good_here, sum_on, sum_few, sum_none}
use Rattle.plans.proofs.slot_of.Goals as goal

pub loop-x-init : goal.loop-x-init
loop-x-init c = sum_none c.args.timeslot c.no_slot-made.result c.no_slot-made.ensures

pub joined_own-made-requires : goal.joined_own-made-requires
joined_own-made-requires c =
    let l = c.loop-x in
    let list = c.args.list.now in
    let lt : l.x-index < length list = omega arith in
    let good = ap (every good_code) (take_all (length list) list (omega arith)) ∙ c.requires.1 in (
      good_here list (length list) l.x-index c.args.timeslot _ (omega arith) lt good,
      omega (arith, sum_few list (length list) l.x-index c.args.timeslot blank (omega arith) lt l.made l.invariant),
    )

pub loop-x-preserved : goal.loop-x-preserved
loop-x-preserved c =
    let l = c.loop-x in
    let list = c.args.list.now in
    sum_on list (length list) l.x-index c.args.timeslot _ (omega arith) (omega arith) l.made c.joined_own-made.result l.invariant c.joined_own-made.ensures

pub returns : goal.returns
returns c =
    let l = c.loop-x in
    l.invariant ∙ ap (slot_of c.args.timeslot) (take_all l.x-index c.args.list.now (omega arith))

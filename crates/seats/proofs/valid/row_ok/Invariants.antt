-- `seats::valid::row_ok` meets its contract: what was passed holds, and the rest is to be tested; one that may not stand decides.
-- Assumes nothing.
use mathlib.Core.Path.{◌≡◌}
use mathlib.Core.Bool.{true}
use lib.ListN.{take, drop}
use Rattle.laws.specs.Lists.{every, chain, pairs}
use Rattle.bookings.specs.Bookings.{comes}
use Rattle.slots.specs.Slots.{summary_of}
use Rattle.slots.proofs.ByMasks.{no_clash}
use Rattle.seats.specs.Seats.{stands_in}
use Rattle.seats.proofs.Sorted.{next_key}
use Rattle.seats.proofs.valid.row_ok.Given as goal

abbrev pub invariant-loop-x : goal.invariant-loop-x
invariant-loop-x l =
    (every (stands_in l.s) (take l.x-index l.row) ≡ true) × (every (stands_in l.s) (drop l.x-index l.row) ≡ every (stands_in l.s) l.row)
    × (l.made ≡ summary_of (take l.x-index l.row)) × (l.ok ≡ pairs no_clash (take l.x-index l.row))
    × (l.sorted ≡ chain comes (take l.x-index l.row)) × (l.next ≡ next_key (take l.x-index l.row))

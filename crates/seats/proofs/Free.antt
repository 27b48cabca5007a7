-- Fifteen timeslots without bookings are what no bookings say. Cited by closed_seat's and opened_seat's proofs.
-- Assumes nothing.
use mathlib.Core.Path.{◌≡◌, ap}
use mathlib.Core.List.{[]}
use lib.ListN.{replicate}
use Rattle.laws.specs.Lists.{some, total}
use Rattle.leaves.specs.Leaves.{pattern}
use Rattle.slots.specs.declared.Slot.{Slot}
use Rattle.slots.specs.Slots.{covered_in, way_in, count_in, type_two_in, slot_of, summary_of}
use Rattle.slots.specs.Inside.{no_slot}

pub all_free : (s : Slot) → s ≡ no_slot → replicate 15 s ≡ summary_of []
unfolding summary_of slot_of covered_in way_in count_in type_two_in pattern some total no_slot
all_free s e = ap (λ (t : Slot). replicate 15 t) e

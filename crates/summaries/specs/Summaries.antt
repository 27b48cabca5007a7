-- Document 02, C-16, "Free codes at a glance": what the call answers. Cited by the promise of `summaries::summary`, and by the crates demand and facts.
-- Assumes nothing.
use Rattle.std.specs.Prelude.{◌∷◌, ℕ}
use Rattle.refusals.specs.Refusals.{Answer, Refusals, first_of, answer}
use Rattle.conditions.specs.Conditions.{bad_timeslot}
use Rattle.slots.specs.declared.Slot.{Slot}
use Rattle.slots.specs.Slots.{slot_of}
use Rattle.seats.specs.Seats.{bookings}
use Rattle.classbook.specs.declared.Book.{Book}
use Rattle.classbook.specs.Book.{seat_of}
use Rattle.classbook.specs.Calls.{seat_refusals}
use Rattle.summaries.specs.declared.Glance.{Glance}

-- "Refusals: 5, 12, 13, 14 as they stand."
unfoldable pub summary_refusals : Book → ℕ → ℕ → Refusals
summary_refusals b seat timeslot = (5, bad_timeslot timeslot) ∷ seat_refusals b seat

-- what is answered: "a pattern of 16 bits", "the direction, or that there is none, and the number of bookings"
unfoldable pub glance_of : Slot → Glance
glance_of s = record { leaves = s.leaves; way = s.way; count = s.count }

-- and what a reply says: each of the three
unfoldable pub glance_said : Glance → Glance
glance_said g = record { leaves = g.leaves; way = g.way; count = g.count }

-- "It must equal what the bookings themselves say": refused, or that, of the seat and timeslot that are named
unfoldable pub summary_answer : Book → ℕ → ℕ → Answer Glance
summary_answer b seat timeslot = answer (first_of (summary_refusals b seat timeslot)) (glance_of (slot_of timeslot (bookings (seat_of b seat))))

-- `seats::closed_seat` meets its contract: field by field.
-- Assumes nothing.
use mathlib.Core.Path.{ap, ◌∙◌}
use mathlib.Core.List.{List}
use mathlib.Core.Bool.{false}
use lib.ListN.{replicate}
use Rattle.bookings.specs.declared.Booking.{Booking}
use Rattle.slots.specs.declared.Slot.{Slot}
use Rattle.seats.specs.Seats.{blank, closed}
use Rattle.seats.proofs.Free.{all_free}
use Rattle.seats.proofs.closed_seat.Goals as goal

pub returns : goal.returns
unfolding closed
returns c =
    ap (λ (x : Booking). record { live = false; cell = 0; case = 0; k = 0; long = 0; short = 0; count = 0; row = replicate 40 x; slots = replicate 15 c.no_slot-slots.result })
    c.blank_booking-row.ensures
    ∙ ap (λ (l : List Slot). record { live = false; cell = 0; case = 0; k = 0; long = 0; short = 0; count = 0; row = replicate 40 blank; slots = l }) (all_free c.no_slot-slots.result c.no_slot-slots.ensures)

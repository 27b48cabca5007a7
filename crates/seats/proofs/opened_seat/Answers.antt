-- `seats::opened_seat` meets its contract: what is not set is as in a closed one.
-- Assumes nothing.
use mathlib.Core.Path.{ap}
use mathlib.Core.Bool.{true}
use Rattle.seats.specs.declared.Seat.{Seat}
use Rattle.seats.specs.Seats.{closed}
use Rattle.seats.proofs.opened_seat.Goals as goal

pub returns : goal.returns
unfolding closed
returns c =
    let a = c.args in
    ap (λ (s : Seat). record { live = true; cell = a.cell; case = a.case; k = a.k; long = a.long; short = a.short; count = s.count; row = s.row; slots = s.slots }) c.closed_seat.ensures

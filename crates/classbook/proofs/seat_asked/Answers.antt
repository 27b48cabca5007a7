-- `classbook::seat_asked` meets its contract: the seat that the walk brought, and the refusals of its table.
-- Assumes nothing.
use Rattle.refusals.specs.Refusals.{number_of}
use Rattle.classbook.proofs.Answers.{seat_refused, seat_brought}
use Rattle.classbook.proofs.Tables.{seat_table}
use Rattle.classbook.proofs.seat_asked.Goals as goal

pub returns-in_err-check_seat : goal.returns-in_err-check_seat
returns-in_err-check_seat c =
    let e = c.check-asked.ensures in
    seat_refused c.args.b.now c.args.seat _ _ c.from_residual.ensures.1
    (seat_table c.args.b.now c.args.seat (number_of c.in_err-check_seat.field-0.0) _ _ e.0 e.2 c.in_err-check_seat.ensures)

pub returns : goal.returns
returns c =
    let e = c.check-asked.ensures in
    seat_brought c.args.b.now c.args.seat _ (seat_table c.args.b.now c.args.seat 0 _ _ e.0 e.2 c.in_ok-check_seat.ensures) e.2

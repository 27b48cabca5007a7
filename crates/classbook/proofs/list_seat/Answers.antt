-- `classbook::list_seat` meets its contract: the list of the seat that the walk brought.
-- Assumes nothing.
use Rattle.refusals.specs.Refusals.{number_of}
use Rattle.classbook.specs.Book.{seat_of}
use Rattle.classbook.specs.Calls.{list_answer}
use Rattle.classbook.proofs.Answers.{list_refused, list_given}
use Rattle.classbook.proofs.Tables.{seat_table}
use Rattle.classbook.proofs.list_seat.Goals as goal

pub returns-in_err-check_seat : goal.returns-in_err-check_seat
unfolding list_answer
returns-in_err-check_seat c =
    let e = c.check-listed.ensures in
    list_refused _ _ _ (seat_of c.args.b.now c.args.seat) c.from_residual.ensures.1
    (seat_table c.args.b.now c.args.seat (number_of c.in_err-check_seat.field-0.0) _ _ e.0 e.2 c.in_err-check_seat.ensures)

pub returns : goal.returns
unfolding list_answer
returns c =
    let e = c.check-listed.ensures in
    list_given _ _ _ _ (seat_table c.args.b.now c.args.seat 0 _ _ e.0 e.2 c.in_ok-check_seat.ensures) c.held-count.ensures.0 e.2

-- `classbook::close_seat` meets its contract: the answer with a closed seat.
-- Assumes nothing.
use mathlib.Core.Path.{sym, ap, ◌∙◌}
use native.Mathlib.Omega.{arith}
use Rattle.refusals.specs.Refusals.{number_of}
use Rattle.seats.specs.declared.Seat.{Seat}
use Rattle.classbook.specs.Book.{with_seat}
use Rattle.classbook.specs.Calls.{close_answer}
use Rattle.classbook.proofs.Answers.{refused_by, made_by}
use Rattle.classbook.proofs.Passed.{seat_passed}
use Rattle.classbook.proofs.Tables.{seat_table}
use Rattle.classbook.proofs.close_seat.Goals as goal

pub returns-in_err-check_seat : goal.returns-in_err-check_seat
unfolding close_answer
returns-in_err-check_seat c =
    let e = c.check-found.ensures in
    refused_by _ _ _ _ _ c.from_residual.ensures.1
    (seat_table c.args.b.now c.args.seat (number_of c.in_err-check_seat.field-0.0) _ _ e.0 e.2 c.in_err-check_seat.ensures)

pub exchange-requires : goal.exchange-requires
exchange-requires c =
    let e = c.check-found.ensures in
    let z = seat_table c.args.b.now c.args.seat 0 _ _ e.0 e.2 c.in_ok-check_seat.ensures in
    omega (arith, (seat_passed c.args.b.now c.args.seat (sym z)).seat_low)

pub returns : goal.returns
unfolding close_answer
returns c =
    let e = c.check-found.ensures in
    made_by _ _ _ _ (seat_table c.args.b.now c.args.seat 0 _ _ e.0 e.2 c.in_ok-check_seat.ensures)
    (c.exchange.ensures ∙ ap (λ (s : Seat). with_seat c.args.b.now c.args.seat s) c.closed_seat.ensures)

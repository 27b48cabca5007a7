-- `classbook::seat_named` meets its contract: a seat of the sixteen, or a closed one behind them.
-- Assumes nothing.
use mathlib.Core.Path.{sym, ◌∙◌}
use native.Mathlib.Omega.{arith}
use lib.ListN.{length, get_or-eq_default}
use Rattle.laws.proofs.Rows.{get_d_any}
use Rattle.seats.specs.Seats.{closed}
use Rattle.classbook.specs.Book.{seat_of}
use Rattle.classbook.proofs.seat_named.Goals as goal

pub returns-then-seat-lt16 : goal.returns-then-seat-lt16
unfolding seat_of
returns-then-seat-lt16 c = get_d_any c.args.b.now.seats c.args.seat _ closed (omega arith)

pub returns-else-seat-lt16 : goal.returns-else-seat-lt16
unfolding seat_of
returns-else-seat-lt16 c = c.closed_seat.ensures ∙ sym (get_or-eq_default c.args.b.now.seats closed {n = c.args.seat} (omega arith))

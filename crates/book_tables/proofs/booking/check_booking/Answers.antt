-- `book_tables::booking::check_booking` meets its contract: the seat's table is read first, then its own rows.
-- Assumes nothing.
use mathlib.Core.Path.{◌∙◌}
use Rattle.book_tables.proofs.Parts.{own_told}
use Rattle.book_tables.proofs.booking.check_booking.Goals as goal

pub returns : goal.returns
returns c =
    c.check_own.ensures
    ∙ own_told c.args.ok c.args.used c.args.seat c.args.s.now c.args.x c.in_ok-check_seat.ensures
    c.requires.2 c.requires.0 c.requires.1 _ _ _ _ _ c.held-held.ensures.0 c.not_permitted-barred.ensures
    c.clashes_there-clash.ensures c.off_beacon-off.ensures c.used_up.ensures

-- `lesson_list::listed` meets its contract: forty blank records are lent, and what the list left in them is the list by value.
-- Assumes nothing.
use mathlib.Core.Path.{ap}
use lib.ListN.{replicate}
use Rattle.std.specs.Prelude.{Ok, Err}
use Rattle.bookings.specs.declared.Booking.{Booking}
use Rattle.lesson_list.proofs.Sized.{book_sized}
use Rattle.lesson_list.proofs.Agrees.{lent_agrees, refused_agrees}
use Rattle.lesson_list.proofs.listed.Goals as goal

pub returns-in_err-count : goal.returns-in_err-count
returns-in_err-count c =
    let sized = book_sized c.args.b _ c.well_formed.0 in
    let blanks = ap (λ (x : Booking). replicate 40 x) c.blank_booking-row.ensures in
    refused_agrees c.args.b c.args.seat sized _ _ c.list.new.out c.from_residual.ensures.1 (lent_agrees c.args.b c.args.seat sized (Err c.in_err-count.field-0.0) _ _ blanks c.in_err-count.ensures)

pub returns : goal.returns
returns c =
    let sized = book_sized c.args.b _ c.well_formed.0 in
    let blanks = ap (λ (x : Booking). replicate 40 x) c.blank_booking-row.ensures in
    lent_agrees c.args.b c.args.seat sized (Ok c.in_ok-count.count) _ _ blanks c.in_ok-count.ensures

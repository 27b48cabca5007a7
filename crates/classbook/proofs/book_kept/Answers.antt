-- `classbook::book_kept` meets its contract: refused by book, seat and room, or the booking stands in its place.
-- Assumes nothing.
use mathlib.Core.Path.{sym, ap, ◌∙◌}
use native.Mathlib.Omega.{arith}
use Rattle.refusals.specs.Refusals.{number_of}
use Rattle.bookings.proofs.Formed.{formed}
use Rattle.seats.specs.declared.Seat.{Seat}
use Rattle.classbook.specs.Book.{with_seat}
use Rattle.classbook.specs.Inside.{booking_answer}
use Rattle.classbook.proofs.Answers.{refused_by, made_by}
use Rattle.classbook.proofs.Passed.{booking_passed}
use Rattle.classbook.proofs.Tables.{booking_table}
use Rattle.classbook.proofs.Made.{found_good, booking_ready, booked_made}
use Rattle.classbook.proofs.book_kept.Goals as goal

pub check_booking-requires : goal.check_booking-requires
check_booking-requires c =
    let e = c.check-found.ensures in
    let f = formed c.args.x c.requires in
    (f.timeslot_good, f.code_good, found_good c.args.b.now c.args.seat c.check-found.result.seat e.2 c.check-found.result.ok (omega arith) e.0)

pub returns-in_err-check_booking : goal.returns-in_err-check_booking
unfolding booking_answer
returns-in_err-check_booking c =
    let e = c.check-found.ensures in
    refused_by _ _ _ _ _ c.from_residual.ensures.1
    (booking_table c.args.b.now c.args.seat (number_of c.in_err-check_booking.field-0.0) _ _ e.0 e.2 c.args.x _ e.1 c.in_err-check_booking.ensures)

pub with_booking-requires : goal.with_booking-requires
with_booking-requires c =
    let e = c.check-found.ensures in
    let z = booking_table c.args.b.now c.args.seat 0 _ _ e.0 e.2 c.args.x _ e.1 c.in_ok-check_booking.ensures in
    let ready = booking_ready c.args.b.now c.args.seat _ e.2 c.args.x (omega arith) (sym z) in
    let f = formed c.args.x c.requires in
    (ready.0, ready.1, f.timeslot_good, f.code_good)

pub exchange-requires : goal.exchange-requires
exchange-requires c =
    let e = c.check-found.ensures in
    let z = booking_table c.args.b.now c.args.seat 0 _ _ e.0 e.2 c.args.x _ e.1 c.in_ok-check_booking.ensures in
    omega (arith, (booking_passed c.args.b.now c.args.seat c.args.x (sym z)).seat_low)

pub returns : goal.returns
unfolding booking_answer
returns c =
    let e = c.check-found.ensures in
    made_by _ _ _ _ (booking_table c.args.b.now c.args.seat 0 _ _ e.0 e.2 c.args.x _ e.1 c.in_ok-check_booking.ensures)
    (c.exchange.ensures ∙ ap (λ (s : Seat). with_seat c.args.b.now c.args.seat s) c.with_booking.ensures ∙ booked_made c.args.b.now c.args.seat _ e.2 c.args.x)

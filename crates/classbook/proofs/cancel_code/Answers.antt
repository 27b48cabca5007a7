-- `classbook::cancel_code` meets its contract: refused, or the seat is without the booking that was named.
-- Assumes nothing.
use mathlib.Core.Path.{sym, ap, ◌∙◌}
use native.Mathlib.Omega.{arith}
use Rattle.refusals.specs.Refusals.{number_of}
use Rattle.seats.specs.declared.Seat.{Seat}
use Rattle.classbook.specs.Book.{with_seat}
use Rattle.classbook.specs.Calls.{cancel_answer}
use Rattle.classbook.proofs.Answers.{refused_by, made_by}
use Rattle.classbook.proofs.Passed.{cancel_passed}
use Rattle.classbook.proofs.Tables.{cancel_table}
use Rattle.classbook.proofs.Made.{one_named, place_found, cancel_ready, cancelled_made}
use Rattle.classbook.proofs.cancel_code.Goals as goal

pub returns-in_err-p : goal.returns-in_err-p
unfolding cancel_answer
returns-in_err-p c =
    let a = c.args in
    let e = c.check-found.ensures in
    let found = one_named c.check-found.result.seat a.timeslot a.factor a.index _ _ c.bookings.ensures c.place_named-place.ensures.none in
    refused_by _ _ _ _ _ c.from_residual.ensures.1
    (cancel_table a.b.now a.seat (number_of c.in_err-p.field-0.0) _ _ e.0 e.2 a.timeslot a.factor a.index _ found c.in_err-p.ensures.table)

pub without_at-requires : goal.without_at-requires
without_at-requires c =
    let a = c.args in
    let e = c.check-found.ensures in
    let s = c.check-found.result.seat in
    let found = one_named s a.timeslot a.factor a.index _ _ c.bookings.ensures c.place_named-place.ensures.none in
    let place = place_found s a.timeslot a.factor a.index c.in_ok-p.p _ _ c.bookings.ensures c.in_ok-p.ensures.found c.place_named-place.ensures.place in
    let z = cancel_table a.b.now a.seat 0 _ _ e.0 e.2 a.timeslot a.factor a.index _ found c.in_ok-p.ensures.table in
    cancel_ready a.b.now a.seat _ e.2 a.timeslot a.factor a.index _ place (omega arith) (sym z)

pub exchange-requires : goal.exchange-requires
exchange-requires c =
    let a = c.args in
    let e = c.check-found.ensures in
    let found = one_named c.check-found.result.seat a.timeslot a.factor a.index _ _ c.bookings.ensures c.place_named-place.ensures.none in
    let z = cancel_table a.b.now a.seat 0 _ _ e.0 e.2 a.timeslot a.factor a.index _ found c.in_ok-p.ensures.table in
    omega (arith, (cancel_passed a.b.now a.seat a.timeslot a.factor a.index (sym z)).seat_low)

pub returns : goal.returns
unfolding cancel_answer
returns c =
    let a = c.args in
    let e = c.check-found.ensures in
    let s = c.check-found.result.seat in
    let found = one_named s a.timeslot a.factor a.index _ _ c.bookings.ensures c.place_named-place.ensures.none in
    let place = place_found s a.timeslot a.factor a.index c.in_ok-p.p _ _ c.bookings.ensures c.in_ok-p.ensures.found c.place_named-place.ensures.place in
    let z = cancel_table a.b.now a.seat 0 _ _ e.0 e.2 a.timeslot a.factor a.index _ found c.in_ok-p.ensures.table in
    made_by _ _ _ _ z
    (c.exchange.ensures
    ∙ ap (λ (s : Seat). with_seat a.b.now a.seat s) c.without_at.ensures
    ∙ cancelled_made a.b.now a.seat _ e.2 a.timeslot a.factor a.index _ place (omega arith) (sym z))

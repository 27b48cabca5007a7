-- `plans::with_booking` meets its contract: the place is the rank, what comes behind it is carried along, and the booking joins those of its timeslot.
-- Assumes nothing.
use mathlib.Core.Path.{◌≡◌, ap, ◌∙◌}
use mathlib.Core.Bool.{false}
use Prim.Native.Nat.{◌≤◌, ◌<◌}
use native.Mathlib.Omega.{arith}
use borrow.Author.Tests.{ltb-false}
use Rattle.conditions.specs.Conditions.{bad_timeslot}
use Rattle.bookings.specs.declared.Booking.{Booking}
use Rattle.slots.specs.Inside.{no_slot}
use Rattle.seats.specs.Seats.{held, bookings, rank}
use Rattle.plans.proofs.Carried.{rank_high, carried_in}
use Rattle.plans.proofs.Plans.{put_in_plan, count_kept}
use Rattle.plans.proofs.with_booking.Goals as goal

high : (x : Booking) → bad_timeslot x.timeslot ≡ false → x.timeslot ≤ 14
unfolding bad_timeslot
high x e = ltb-false 14 x.timeslot e

low : (x : Booking) → bad_timeslot x.timeslot ≡ false → x.timeslot < 15
low x e = omega (arith, high x e)

pub put_in-requires : goal.put_in-requires
put_in-requires c =
    let s = c.args.s.now in
    let place : c.place_of-p.result ≡ rank c.args.x (bookings s) = c.place_of-p.ensures ∙ ap (rank c.args.x) c.bookings.ensures in
    omega (arith, place, c.requires.1, rank_high c.args.x (held s) s.row)

pub bounds-s-t : goal.bounds-s-t
bounds-s-t c = low c.args.x c.requires.2

pub joined-requires : goal.joined-requires
joined-requires c = (c.requires.3, count_kept c.args.s.now c.requires.0 c.put_in.ensures.wide c.args.x.timeslot _ (high c.args.x c.requires.2))

pub bounds-s-t-2 : goal.bounds-s-t-2
bounds-s-t-2 c = low c.args.x c.requires.2

pub returns : goal.returns
unfolding no_slot
returns c =
    let s = c.args.s.now in
    let count : s.count ≡ held s = omega (arith, c.requires.1) in
    carried_in s c.args.x s.count c.place_of-p.result c.put_in.new.row c.joined.result count (c.place_of-p.ensures ∙ ap (rank c.args.x) c.bookings.ensures)
    c.put_in.ensures.moved c.joined.ensures
    ∙ put_in_plan s c.requires.0 c.put_in.ensures.wide c.args.x c.requires.1 (high c.args.x c.requires.2)

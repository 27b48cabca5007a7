-- `plans::without_at` meets its contract: what comes behind the place is carried back, and its timeslot is summed again.
-- Assumes nothing.
use mathlib.Core.Path.{◌≡◌, ap, ◌∙◌}
use mathlib.Core.List.{List, [], ◌∷◌, ◌++◌}
use Prim.Native.Nat.{ℕ, ◌-◌}
use native.Mathlib.Omega.{arith}
use lib.ListN.{length, take, get_or, length-take}
use Rattle.laws.specs.Lists.{every, remove_at}
use Rattle.bookings.specs.declared.Booking.{Booking}
use Rattle.slots.specs.Slots.{slot_of}
use Rattle.slots.proofs.ByMasks.{good_code}
use Rattle.seats.specs.Seats.{blank, held}
use Rattle.seats.proofs.Sound.{sound}
use Rattle.plans.proofs.Carried.{carried_out}
use Rattle.plans.proofs.Plans.{taken_out_at, gone_low, left_told, left_good}
use Rattle.plans.proofs.without_at.Goals as goal

-- the row that was made, with a blank place behind
moved : (row : List Booking) (p : ℕ) (b : Booking) (r : List Booking) → b ≡ blank → r ≡ remove_at p (row ++ b ∷ []) → r ≡ remove_at p (row ++ blank ∷ [])
moved row p b r eb er = er ∙ ap (λ (y : Booking). remove_at p (row ++ y ∷ [])) eb

pub slot_of-fewer-requires : goal.slot_of-fewer-requires
slot_of-fewer-requires c =
    let s = c.args.s.now in
    let wide = c.take_out.ensures.wide in
    let few = (sound s c.requires.0).few in
    let row = moved s.row c.args.p c.blank_booking.result c.take_out.new.row c.blank_booking.ensures c.take_out.ensures.moved in
    let left : c.bookings.result.now ≡ take (s.count - 1) c.take_out.new.row = c.bookings.ensures ∙ ap (λ (k : ℕ). take k c.take_out.new.row) (omega (arith, few)) in (
      omega (arith, ap length left, length-take (s.count - 1) c.take_out.new.row, few),
      ap (every good_code) left ∙ left_good s c.requires.0 wide c.args.p s.count c.take_out.new.row c.requires.1 (omega (arith, few)) row,
    )

pub bounds-s-t : goal.bounds-s-t
bounds-s-t c =
    let s = c.args.s.now in
    omega (arith, gone_low s c.requires.0 c.take_out.ensures.wide c.args.p c.requires.1)

pub returns : goal.returns
returns c =
    let s = c.args.s.now in
    let p = c.args.p in
    let wide = c.take_out.ensures.wide in
    let few = (sound s c.requires.0).few in
    let count : s.count ≡ held s = omega (arith, few) in
    let row = moved s.row p c.blank_booking.result c.take_out.new.row c.blank_booking.ensures c.take_out.ensures.moved in
    let left : c.bookings.result.now ≡ take (s.count - 1) c.take_out.new.row = c.bookings.ensures ∙ ap (λ (k : ℕ). take k c.take_out.new.row) (omega (arith, few)) in
    let t = (get_or s.row p blank).timeslot in
    carried_out s s.count p c.blank_booking.result c.take_out.new.row c.slot_of-fewer.result count c.blank_booking.ensures c.take_out.ensures.moved
    ∙ taken_out_at s c.requires.0 wide p c.requires.1 (gone_low s c.requires.0 wide p c.requires.1) c.slot_of-fewer.result
    (c.slot_of-fewer.ensures ∙ ap (slot_of t) (left ∙ left_told s c.requires.0 wide p s.count c.take_out.new.row c.requires.1 count row))

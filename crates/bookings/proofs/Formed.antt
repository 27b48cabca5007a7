-- A booking whose own numbers are good: its code is, and its leaves are among the 16. Cited by the crates slots, seats, plans and classbook.
-- Assumes nothing.
use mathlib.Core.Path.{◌≡◌}
use mathlib.Core.Bool.{false, ◌||◌}
use Prim.Native.Nat.{◌≤◌}
use native.Mathlib.Omega.{arith}
use borrow.Author.Tests.{ltb-false}
use Rattle.laws.proofs.Bools.{or_false}
use Rattle.conditions.specs.Conditions.{bad_type, bad_down_factor, bad_booked_user, bad_timeslot, bad_code}
use Rattle.tables.specs.Tables.{form_refusals}
use Rattle.refusals.proofs.First.{first_none}
use Rattle.bookings.specs.declared.Booking.{Booking}
use Rattle.leaves.specs.Leaves.{leaves_of}
use Rattle.leaves.proofs.Masks.{covered}
use Rattle.bookings.specs.Bookings.{form_of, leaf}

-- what a booking in form is known for
pub record Formed (x : Booking) : Type 0 where
  pub timeslot_good : bad_timeslot x.timeslot ≡ false
  pub timeslot_high : x.timeslot ≤ 14
  pub code_good : bad_code x.factor x.index ≡ false
  pub leaf_high : leaf x ≤ 15
  pub leaves_low : 1 ≤ leaves_of x.factor

pub formed : (x : Booking) → form_of x ≡ 0 → Formed x
unfolding form_of form_refusals bad_timeslot
formed x e =
    let two = first_none 1 (bad_type x.burst) _ e in
    let four = first_none 3 (bad_booked_user x.burst x.user) _ two.1 in
    let five = first_none 4 (bad_timeslot x.timeslot) _ four.1 in
    let six = first_none 5 (bad_code x.factor x.index || bad_down_factor x.direction x.factor) _ five.1 in
    let code = (or_false (bad_code x.factor x.index) (bad_down_factor x.direction x.factor) six.0).0 in
    let c = covered x.factor x.index code in
    record { timeslot_good = five.0; timeslot_high = ltb-false 14 x.timeslot five.0; code_good = code; leaf_high = omega (arith, c.one_least, c.ends); leaves_low = c.one_least }

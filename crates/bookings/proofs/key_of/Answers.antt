-- `bookings::key_of` meets its contract: the first leaf is that of its code.
-- Assumes nothing.
use mathlib.Core.Path.{◌≡◌}
use Prim.Native.Nat.{ℕ, ◌+◌, ◌*◌}
use native.Mathlib.Omega.{arith}
use Rattle.bookings.specs.declared.Booking.{Booking}
use Rattle.bookings.specs.Bookings.{leaf, key}
use Rattle.bookings.proofs.Leaves.{leaf_told}
use Rattle.bookings.proofs.key_of.Goals as goal

as-defined : (x : Booking) (t a : ℕ) → t ≡ x.timeslot → a ≡ leaf x → t * 16 + a ≡ key x
as-defined x t a et e = rw (et, e)

pub returns : goal.returns
returns c =
    let l = c.leaf_at.ensures in
    (as-defined c.args.x _ _ c.from.ensures (leaf_told c.args.x _ _ c.leaves_of.ensures.0 l.0), omega (arith, l.1))

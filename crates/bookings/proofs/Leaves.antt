-- The first leaf of a booking's code, as the code computes it. Cited by key_of's proof.
-- Assumes nothing.
use mathlib.Core.Path.{◌≡◌}
use Prim.Native.Nat.{ℕ, ◌-◌, ◌*◌}
use Rattle.bookings.specs.declared.Booking.{Booking}
use Rattle.leaves.specs.Leaves.{leaves_of, first_leaf}
use Rattle.bookings.specs.Bookings.{leaf}

pub leaf_told : (x : Booking) (m a : ℕ) → m ≡ leaves_of x.factor → a ≡ (x.index - 1) * m → a ≡ leaf x
unfolding first_leaf
leaf_told x m a em ea = rw (ea, em)

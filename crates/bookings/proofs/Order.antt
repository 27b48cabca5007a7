-- To come before another in a list is transitive, so that testing neighbours tests all pairs. Cited by the crate seats.
-- Assumes nothing.
use mathlib.Core.Path.{◌≡◌}
use mathlib.Core.Bool.{true}
use Prim.Native.Nat.{◌<◌}
use native.Mathlib.Omega.{arith}
use borrow.Author.Tests.{ltb-true, lt-ltb}
use Rattle.bookings.specs.declared.Booking.{Booking}
use Rattle.bookings.specs.Bookings.{key, comes}

pub comes_trans : (x y z : Booking) → comes x y ≡ true → comes y z ≡ true → comes x z ≡ true
unfolding comes
comes_trans x y z p q =
    let xy : key x < key y = ltb-true _ _ p in
    let yz : key y < key z = ltb-true _ _ q in
    lt-ltb (key x) (key z) (omega arith)

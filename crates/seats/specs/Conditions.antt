-- Document 01, "Refusal numbers": the conditions of the refusals 16 to 18, on a booking and what its seat has. Cited by specs/Seats.antt and by the crate classbook.
-- Assumes nothing.
use Rattle.std.specs.Prelude.{Bool, cond, not, ◌&&◌, List, ℕ, eqb}
use Rattle.laws.specs.Lists.{every}
use Rattle.conditions.specs.Conditions.{bad_user}
use Rattle.beacons.specs.Beacons.{is_beacon}
use Rattle.bookings.specs.declared.Booking.{Booking}
use Rattle.bookings.specs.Bookings.{clash, breaks_beacon}

-- of a seat's two counts the one that a burst type goes by
unfoldable pub count_for : ℕ → ℕ → ℕ → ℕ
count_for long short burst = cond (eqb burst 2) short long

-- 16: "user above this seat's count"; document 02, C-13: "also given to an even user, or one above 7, under count 4"
unfoldable pub not_permitted : ℕ → ℕ → Booking → Bool
not_permitted long short x = bad_user x.burst (count_for long short x.burst) x.user

-- 17: "clash inside this seat's own cell", whose bookings are l
unfoldable pub clashes_with : List Booking → Booking → Bool
clashes_with l x = not (every (λ y. not (clash x y)) l)

-- 18: "beacon rule"
unfoldable pub off_beacon : ℕ → ℕ → Booking → Bool
off_beacon case k x = is_beacon case k x.timeslot && breaks_beacon x

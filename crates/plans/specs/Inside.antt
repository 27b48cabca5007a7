-- What the functions of this crate promise each other, beyond document 01. No reader of a public promise has to believe it.
-- Assumes nothing.
use Rattle.std.specs.Prelude.{cond, List, [], ◌∷◌, ℕ, suc}
use Rattle.bookings.specs.declared.Booking.{Booking}
use Rattle.seats.specs.Seats.{names}

-- the place of the first booking that is named; the length where there is none
unfoldable pub place_named : ℕ → ℕ → ℕ → List Booking → ℕ
place_named timeslot factor index [] = 0
place_named timeslot factor index (y ∷ l) = cond (names timeslot factor index y) 0 (suc (place_named timeslot factor index l))

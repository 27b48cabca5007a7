-- The tables of the calls on the book (the crate classbook, specs/Calls.antt) over what one walk through it has found: whether it meets its conditions, its
-- common room in use, and the seat. What this crate promises the calls; no reader of a public promise has to believe it. Assumes nothing.
use Rattle.std.specs.Prelude.{Bool, not, ◌&&◌, [], ◌∷◌, ◌++◌, ℕ, eqb, ltb, leb}
use Rattle.refusals.specs.Refusals.{Refusals}
use Rattle.conditions.specs.Conditions.{bad_timeslot, bad_code}
use Rattle.tables.specs.Tables.{settings_refusals}
use Rattle.bookings.specs.declared.Booking.{Booking}
use Rattle.seats.specs.declared.Seat.{Seat}
use Rattle.seats.specs.Conditions.{not_permitted, clashes_with, off_beacon}
use Rattle.seats.specs.Seats.{held, bookings}

-- of opening a seat that is open already, or not
unfoldable pub open_rows : Bool → ℕ → Bool → ℕ → ℕ → ℕ → ℕ → ℕ → Refusals
open_rows ok seat live cell case k long short = settings_refusals cell case k long short ++ (12, not ok) ∷ (13, ltb 15 seat) ∷ (15, live) ∷ []

-- of a booking, by what the tests of its own seat gave: 16 to 20
unfoldable pub own_rows : Bool → Bool → Bool → Bool → Bool → Refusals
own_rows barred clash off full out = (16, barred) ∷ (17, clash) ∷ (18, off) ∷ (19, full) ∷ (20, out) ∷ []

-- of a booking in the seat s, its own numbers passed
unfoldable pub booking_rows : Bool → ℕ → ℕ → Seat → Booking → Refusals
booking_rows ok used seat s x =
    (12, not ok) ∷
    (13, ltb 15 seat) ∷
    (14, not s.live) ∷
    (16, not_permitted s.long s.short x) ∷
    (17, clashes_with (bookings s) x) ∷
    (18, off_beacon s.case s.k x) ∷
    (19, eqb (held s) 40) ∷
    (20, leb 10 (held s) && eqb used 80) ∷ []

-- of cancelling, where none is named, or one is
unfoldable pub cancel_rows : Bool → ℕ → Bool → ℕ → ℕ → ℕ → Bool → Refusals
cancel_rows ok seat live timeslot factor index none =
    (5, bad_timeslot timeslot) ∷ (6, bad_code factor index) ∷ (12, not ok) ∷ (13, ltb 15 seat) ∷ (14, not live) ∷ (21, none) ∷ []

-- of closing and listing
unfoldable pub seat_rows : Bool → ℕ → Bool → Refusals
seat_rows ok seat live = (12, not ok) ∷ (13, ltb 15 seat) ∷ (14, not live) ∷ []

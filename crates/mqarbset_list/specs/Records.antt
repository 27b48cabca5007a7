-- A list over C: a seat's bookings as records of eight bytes, into lent memory. Cited by the promise of list over C.
-- Assumes nothing.
use Rattle.std.specs.Prelude.{List, [], ◌∷◌, ◌++◌, ℕ, ◌*◌, length, drop}
use Rattle.conditions.specs.Conditions.{too_short}
use Rattle.refusals.specs.Refusals.{Refusals, Outcome, ◌leaving◌, first_of, answer, after}
use Rattle.bookings.specs.declared.Booking.{Booking}
use Rattle.seats.specs.Seats.{bookings}
use Rattle.classbook.specs.declared.Book.{Book}
use Rattle.classbook.specs.Book.{seat_of}
use Rattle.classbook.specs.Calls.{seat_refusals}
use Rattle.mqarbset_book.specs.Mirror.{write_direction}

-- a booking as eight bytes, in the order in which document 01 names its numbers
unfoldable pub record_of : Booking → List ℕ
record_of x =
    x.timeslot ∷ write_direction x.direction ∷ x.burst ∷ x.factor ∷
    x.index ∷ x.user ∷ x.tfci ∷ x.tpc ∷ []

-- bookings, one record after the other
unfoldable pub records_of : List Booking → List ℕ
records_of [] = []
records_of (x ∷ l) = record_of x ++ records_of l

-- list (11 to 14); 11: "a list: fewer than 40 records, however few it writes", and 40 records are 320 bytes
unfoldable pub records_refusals : Book → ℕ → List ℕ → Refusals
records_refusals b seat out = (11, too_short 320 out) ∷ seat_refusals b seat

-- "A list goes into a lent row of booking records, by timeslot, then by first leaf, and the number written is returned."; further bytes stay as they were
unfoldable pub records_outcome : Book → ℕ → List ℕ → Outcome ℕ (List ℕ)
records_outcome b seat out =
    let n = first_of (records_refusals b seat out) in
    let l = bookings (seat_of b seat) in
    answer n (length l) leaving after n out (records_of l ++ drop (8 * length l) out)

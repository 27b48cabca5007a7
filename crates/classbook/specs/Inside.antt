-- What the functions of this crate promise each other. No reader of a public promise has to believe it.
-- Assumes nothing.
use Rattle.std.specs.Prelude.{ℕ}
use Rattle.refusals.specs.Refusals.{first_of}
use Rattle.bookings.specs.declared.Booking.{Booking}
use Rattle.classbook.specs.declared.Book.{Book}
use Rattle.classbook.specs.Calls.{BookAnswer, with_book, booking_refusals, booked}

-- the answer to a booking whose own numbers have passed
unfoldable pub booking_answer : Book → ℕ → Booking → BookAnswer
booking_answer b seat x = with_book (first_of (booking_refusals b seat x)) b (booked b seat x)

-- Document 01, "The class book": sixteen seats, the common room, the conditions of a book, and a seat's plan. Cited by specs/Calls.antt.
-- Assumes nothing.
use Rattle.std.specs.Prelude.{Bool, ◌&&◌, List, ℕ, ◌-◌, leb, get_or, set, replicate}
use Rattle.laws.specs.Lists.{every, total}
use Rattle.bookings.specs.declared.Booking.{Booking}
use Rattle.seats.specs.declared.Seat.{Seat}
use Rattle.seats.specs.Seats.{closed, held, bookings, seat_ok}
use Rattle.classbook.specs.declared.Book.{Book}

-- "An empty book, with no seat open"
unfoldable pub empty_book : Book
empty_book = record { seats = replicate 16 closed }

-- a seat by its number; above 15 a closed one
unfoldable pub seat_of : Book → ℕ → Seat
seat_of b seat = get_or b.seats seat closed

-- a book with another seat in the place of one; there is none above 15
unfoldable pub with_seat : Book → ℕ → Seat → Book
with_seat b seat s = record { seats = set b.seats seat s }

-- "what each holds beyond 10"
abbrev pub beyond : Seat → ℕ
beyond s = held s - 10

-- "the sum over all seats" of that
unfoldable pub common : Book → ℕ
common b = total beyond b.seats

-- "Conditions of a book": those of every seat, "and the two limits hold": 40 a seat (which a seat's own conditions say) and 80 beyond the first tens
unfoldable pub book_ok : Book → Bool
book_ok b = every seat_ok b.seats && leb (common b) 80

-- "A seat's plan is whether it is open, its settings, and its bookings as listed."
pub record Plan : Type 0 where
  pub live : Bool
  pub cell : ℕ
  pub case : ℕ
  pub k : ℕ
  pub long : ℕ
  pub short : ℕ
  pub list : List Booking

-- the plan of a seat
unfoldable pub plan_of : Seat → Plan
plan_of s =
    record { live = s.live; cell = s.cell; case = s.case; k = s.k; long = s.long; short = s.short; list = bookings s }

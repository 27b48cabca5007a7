-- Document 01, "Refusal numbers": the conditions of the refusals that a book gives, 12 to 15 and 19 to 21. (16 to 18 are a seat's own: the crate seats.)
-- Cited by the tables of specs/Calls.antt. Assumes nothing.
use Rattle.std.specs.Prelude.{Bool, not, ◌&&◌, ℕ, eqb, ltb, leb}
use Rattle.laws.specs.Lists.{every}
use Rattle.seats.specs.declared.Seat.{Seat}
use Rattle.seats.specs.Seats.{held, bookings, names}
use Rattle.classbook.specs.declared.Book.{Book}
use Rattle.classbook.specs.Book.{seat_of, common, book_ok}

-- 12: "the book breaks its conditions"
unfoldable pub bad_book : Book → Bool
bad_book b = not (book_ok b)

-- 13: "seat above 15"
unfoldable pub bad_seat : ℕ → Bool
bad_seat seat = ltb 15 seat

-- 14: "seat not open"
unfoldable pub not_open : Book → ℕ → Bool
not_open b seat = not (seat_of b seat).live

-- 15: "seat open already"
unfoldable pub is_open : Book → ℕ → Bool
is_open b seat = (seat_of b seat).live

-- 19: "a seat with n bookings is refused 19 if n is 40"
unfoldable pub seat_full : Seat → Bool
seat_full s = eqb (held s) 40

-- 20: "if n is at least 10 and the sum over all seats of what each holds beyond 10 is 80"
unfoldable pub room_used_up : Book → Seat → Bool
room_used_up b s = leb 10 (held s) && eqb (common b) 80

-- 21: "no such booking"
unfoldable pub none_named : Seat → ℕ → ℕ → ℕ → Bool
none_named s timeslot factor index = every (λ y. not (names timeslot factor index y)) (bookings s)

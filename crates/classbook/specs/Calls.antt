-- What the calls on the class book answer and what book they leave, for any book and any numbers. Cited by the promises of open, book, cancel, close, list and of a seat asked.
-- Each call's refusals are a table, read from the top: bad arguments, then the book (12), then seat, booking and room. Assumes nothing.
use Rattle.std.specs.Prelude.{cond, List, [], ◌∷◌, ◌++◌, ℕ, eqb, replicate, Result, Ok, Err}
use Rattle.refusals.specs.declared.Refusal.{Refusal}
use Rattle.refusals.specs.Refusals.{Refusals, first_of, after, number_of, refusal_in}
use Rattle.bookings.specs.declared.Booking.{Booking}
use Rattle.seats.specs.declared.Seat.{Seat}
use Rattle.conditions.specs.Conditions.{bad_timeslot, bad_code}
use Rattle.tables.specs.Tables.{form_refusals, settings_refusals}
use Rattle.seats.specs.Conditions.{not_permitted, clashes_with, off_beacon}
use Rattle.seats.specs.Seats.{blank, closed, opened, held, bookings, insert, without, with_plan}
use Rattle.classbook.specs.declared.Book.{Book}
use Rattle.classbook.specs.declared.Request.{Request}
use Rattle.classbook.specs.declared.List as listed
use Rattle.classbook.specs.Book.{seat_of, with_seat}
use Rattle.classbook.specs.Conditions.{bad_book, bad_seat, not_open, is_open, seat_full, room_used_up, none_named}

-- what a call answers and leaves: the refusal's number, or 0, and the book as the call leaves it
pub record BookAnswer : Type 0 where
  pub refusal : ℕ
  pub book : Book

-- of a call's result and the book that it leaves
abbrev pub said_book : Result Unit Refusal → Book → BookAnswer
said_book r b = record { refusal = refusal_in r; book = b }

-- the answer of a call whose first refusal is n: the refusal's number, or 0, and the book as the call leaves it
abbrev pub with_book : ℕ → Book → Book → BookAnswer
with_book n before made = record { refusal = n; book = after n before made }

-- ---- open (1, 3, 9, 12, 13, 15)

-- document 02: "A count of 0 in opening now means 8"
unfoldable pub long_count : ℕ → ℕ
long_count long = cond (eqb long 0) 8 long

-- "and 3"
unfoldable pub short_count : ℕ → ℕ
short_count short = cond (eqb short 0) 3 short

-- the settings as they will be stored, then the book and the seat
unfoldable pub open_refusals : Book → ℕ → ℕ → ℕ → ℕ → ℕ → ℕ → Refusals
open_refusals b seat cell case k long short =
    settings_refusals cell case k (long_count long) (short_count short) ++
    (12, bad_book b) ∷ (13, bad_seat seat) ∷ (15, is_open b seat) ∷ []

-- the seat as it is opened
unfoldable pub open_seat : ℕ → ℕ → ℕ → ℕ → ℕ → Seat
open_seat cell case k long short = opened cell case k (long_count long) (short_count short)

-- refused, or the book with the seat opened
unfoldable pub open_answer : Book → ℕ → ℕ → ℕ → ℕ → ℕ → ℕ → BookAnswer
open_answer b seat cell case k long short =
    with_book (first_of (open_refusals b seat cell case k long short)) b (with_seat b seat (open_seat cell case k long short))

-- ---- book (2, 4 to 8, 12 to 14, 16 to 20)

-- a request as it is kept
unfoldable pub as_booking : Request → Booking
as_booking x =
    record {
      timeslot = x.timeslot;
      direction = x.direction;
      burst = x.burst;
      factor = x.factor;
      index = x.index;
      user = x.user;
      tfci = x.tfci;
      tpc = x.tpc;
    }

-- its own numbers (2, 4 to 8)
unfoldable pub request_refusals : Request → Refusals
request_refusals x = form_refusals x.timeslot x.direction x.burst x.factor x.index x.user x.tfci x.tpc

-- the book, the seat, its bookings and its room (12 to 14, 16 to 20)
unfoldable pub booking_refusals : Book → ℕ → Booking → Refusals
booking_refusals b seat x =
    let s = seat_of b seat in
    (12, bad_book b) ∷
    (13, bad_seat seat) ∷
    (14, not_open b seat) ∷
    (16, not_permitted s.long s.short x) ∷
    (17, clashes_with (bookings s) x) ∷
    (18, off_beacon s.case s.k x) ∷
    (19, seat_full s) ∷
    (20, room_used_up b s) ∷ []

-- both, in this order
unfoldable pub book_refusals : Book → ℕ → Request → Refusals
book_refusals b seat x = request_refusals x ++ booking_refusals b seat (as_booking x)

-- the book whose seat's list has the booking in its place
unfoldable pub booked : Book → ℕ → Booking → Book
booked b seat x = with_seat b seat (with_plan (seat_of b seat) (insert x (bookings (seat_of b seat))))

-- refused, or that book
unfoldable pub book_answer : Book → ℕ → Request → BookAnswer
book_answer b seat x = with_book (first_of (book_refusals b seat x)) b (booked b seat (as_booking x))

-- ---- cancel (5, 6, 12, 13, 14, 21)

-- the numbers, the book, the seat, and whether it has such a booking
unfoldable pub cancel_refusals : Book → ℕ → ℕ → ℕ → ℕ → Refusals
cancel_refusals b seat timeslot factor index =
    (5, bad_timeslot timeslot) ∷
    (6, bad_code factor index) ∷
    (12, bad_book b) ∷
    (13, bad_seat seat) ∷
    (14, not_open b seat) ∷
    (21, none_named (seat_of b seat) timeslot factor index) ∷ []

-- the book whose seat's list is without what is named
unfoldable pub cancelled : Book → ℕ → ℕ → ℕ → ℕ → Book
cancelled b seat timeslot factor index = with_seat b seat (with_plan (seat_of b seat) (without timeslot factor index (bookings (seat_of b seat))))

-- refused, or that book
unfoldable pub cancel_answer : Book → ℕ → ℕ → ℕ → ℕ → BookAnswer
cancel_answer b seat timeslot factor index =
    with_book (first_of (cancel_refusals b seat timeslot factor index)) b (cancelled b seat timeslot factor index)

-- ---- close, "which removes that seat's bookings and its cell (12, 13, 14)"

-- the book and the seat
unfoldable pub seat_refusals : Book → ℕ → Refusals
seat_refusals b seat = (12, bad_book b) ∷ (13, bad_seat seat) ∷ (14, not_open b seat) ∷ []

-- refused, or the book with the seat closed
unfoldable pub close_answer : Book → ℕ → BookAnswer
close_answer b seat = with_book (first_of (seat_refusals b seat)) b (with_seat b seat closed)

-- ---- a seat asked (12, 13, 14): the refusal's number, or 0, and the seat that is named
pub record SeatAnswer : Type 0 where
  pub refusal : ℕ
  pub seat : Seat

-- of a call's result; refused, no seat is handed over
abbrev pub said_seat : Book → ℕ → Result Seat Refusal → SeatAnswer
said_seat b seat (Ok s) = record { refusal = 0; seat = s }
said_seat b seat (Err r) = record { refusal = number_of r; seat = seat_of b seat }

unfoldable pub seat_answer : Book → ℕ → SeatAnswer
seat_answer b seat = record { refusal = first_of (seat_refusals b seat); seat = seat_of b seat }

-- ---- list (12, 13, 14; 11 where it goes into a lent row)

-- the refusal's number, or 0; how many bookings; and a row of which the first so many are the bookings in list order
pub record ListAnswer : Type 0 where
  pub refusal : ℕ
  pub count : ℕ
  pub row : List Booking

-- of a call's result; refused, there is no list
abbrev pub said_list : Result listed.List Refusal → ListAnswer
said_list (Ok l) = record { refusal = 0; count = l.count; row = l.row }
said_list (Err r) = record { refusal = number_of r; count = 0; row = replicate 40 blank }

-- how many, and the seat's row, which is its bookings in list order and blank behind them; refused, nothing
abbrev pub list_with : ℕ → Seat → ListAnswer
list_with n s = record { refusal = n; count = after n 0 (held s); row = after n (replicate 40 blank) s.row }

-- the list of the seat that is named
unfoldable pub list_answer : Book → ℕ → ListAnswer
list_answer b seat = list_with (first_of (seat_refusals b seat)) (seat_of b seat)

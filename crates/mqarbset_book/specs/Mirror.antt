-- The class book as bytes over C: how a caller's bytes are read as a book, whatever they are, and how a book is written as bytes. Cited by specs/Calls.antt.
-- Assumes nothing.
use Rattle.std.specs.Prelude.{Bool, false, cond, not, ◌&&◌, [], map, ℕ, ◌+◌, ◌*◌, ◌/◌, ◌%◌, eqb, ltb, replicate, Option, None, Some}
use Rattle.laws.specs.Lists.{one, every}
use Rattle.conditions.specs.declared.Direction.{Direction}
use Rattle.conditions.specs.declared.Direction.TheVariants.{Up, Down}
use Rattle.bookings.specs.declared.Booking.{Booking}
use Rattle.slots.specs.declared.Slot.{Slot}
use Rattle.slots.specs.Slots.{summary_of}
use Rattle.seats.specs.declared.Seat.{Seat}
use Rattle.seats.specs.Seats.{blank}
use Rattle.classbook.specs.declared.Book.{Book}
use Rattle.mqarbset_book.specs.declared.MqBooking.{MqBooking}
use Rattle.mqarbset_book.specs.declared.MqSlot.{MqSlot}
use Rattle.mqarbset_book.specs.declared.MqSeat.{MqSeat}
use Rattle.mqarbset_book.specs.declared.MqBook.{MqBook}

-- a byte or a number that should be 0 or 1, and is neither
unfoldable pub neither : ℕ → Bool
neither v = ltb 1 v

-- 0 is up and 1 is down
unfoldable pub read_direction : ℕ → Direction
read_direction d = cond (eqb d 1) Down Up

-- a booking, byte by byte
unfoldable pub read_booking : MqBooking → Booking
read_booking x =
    record {
      timeslot = x.timeslot;
      direction = read_direction x.direction;
      burst = x.burst;
      factor = x.factor;
      index = x.index;
      user = x.user;
      tfci = x.tfci;
      tpc = x.tpc;
    }

-- 0 is neither, 1 is up and 2 is down: an empty book is all zeros
unfoldable pub read_way : ℕ → Option Direction
read_way w = cond (eqb w 1) (Some Up) (cond (eqb w 2) (Some Down) None)

-- what is kept of a timeslot, byte by byte: of the pattern the low byte, then the high one
unfoldable pub read_slot : MqSlot → Slot
read_slot x = record { leaves = x.low + x.high * 256; way = read_way x.way; count = x.count; second = eqb x.second 1 }

-- a seat, byte by byte: live 0 is closed and 1 is open
unfoldable pub read_seat : MqSeat → Seat
read_seat s =
    record {
      live = eqb s.live 1;
      cell = s.cell;
      case = s.case;
      k = s.k;
      long = s.long;
      short = s.short;
      count = s.count;
      row = map read_booking s.row;
      slots = map read_slot s.slots;
    }

-- each byte that should be 0 or 1 is one of the two: of a booking, or a place that is not in use, its direction
abbrev pub proper_booking : MqBooking → Bool
proper_booking x = not (neither x.direction)

-- of a timeslot its way, which is 0 to 2, and whether its bookings are type 2
abbrev pub proper_slot : MqSlot → Bool
proper_slot x = not (ltb 2 x.way) && not (neither x.second)

-- of a seat whether it is open, each of its 40 places and each of its 15 timeslots
unfoldable pub proper_seat : MqSeat → Bool
proper_seat s = (not (neither s.live) && every proper_booking s.row) && every proper_slot s.slots

-- of a book each of its seats
unfoldable pub proper : MqBook → Bool
proper b = every proper_seat b.seats

-- a book that breaks its conditions: its seats are closed, and say that they hold a booking
unfoldable pub broken_book : Book
broken_book =
    record { seats = replicate 16 (record { live = false; cell = 0; case = 0; k = 0; long = 0; short = 0; count = 1; row = replicate 40 blank; slots = summary_of [] }) }

-- the book that a caller's bytes say; bytes that are not proper say one that breaks its conditions, so that every call on them gets 12
unfoldable pub read_book : MqBook → Book
read_book b = cond (proper b) (record { seats = map read_seat b.seats }) broken_book

-- ---- and back

-- up is 0 and down is 1
unfoldable pub write_direction : Direction → ℕ
write_direction Up = 0
write_direction Down = 1

-- a booking, byte by byte
unfoldable pub write_booking : Booking → MqBooking
write_booking x =
    record {
      timeslot = x.timeslot;
      direction = write_direction x.direction;
      burst = x.burst;
      factor = x.factor;
      index = x.index;
      user = x.user;
      tfci = x.tfci;
      tpc = x.tpc;
    }

unfoldable pub write_way : Option Direction → ℕ
write_way None = 0
write_way (Some Up) = 1
write_way (Some Down) = 2

-- what is kept of a timeslot, byte by byte
unfoldable pub write_slot : Slot → MqSlot
write_slot x = record { low = x.leaves % 256; high = x.leaves / 256; way = write_way x.way; count = x.count; second = one x.second }

-- a seat, byte by byte: closed is 0 and open is 1
unfoldable pub write_seat : Seat → MqSeat
write_seat s =
    record {
      live = one s.live;
      cell = s.cell;
      case = s.case;
      k = s.k;
      long = s.long;
      short = s.short;
      count = s.count;
      row = map write_booking s.row;
      slots = map write_slot s.slots;
    }

-- a book, seat by seat
unfoldable pub write_book : Book → MqBook
write_book b = record { seats = map write_seat b.seats }

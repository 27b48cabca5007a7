-- What the walk through a book found makes each call's table that of the definition. Cited by the proofs of the five calls.
-- Assumes nothing.
use mathlib.Core.Path.{◌≡◌, ◌∙◌}
use mathlib.Core.Bool.{Bool}
use Prim.Native.Nat.{ℕ}
use Rattle.refusals.specs.Refusals.{first_of}
use Rattle.bookings.specs.declared.Booking.{Booking}
use Rattle.seats.specs.declared.Seat.{Seat}
use Rattle.book_tables.specs.Inside.{open_rows, booking_rows, cancel_rows, seat_rows}
use Rattle.classbook.specs.declared.Book.{Book}
use Rattle.classbook.specs.Book.{seat_of, common, book_ok}
use Rattle.classbook.specs.Conditions.{bad_book, bad_seat, not_open, is_open, seat_full, room_used_up, none_named}
use Rattle.classbook.specs.Calls.{long_count, short_count, open_refusals, booking_refusals, cancel_refusals, seat_refusals}

module _ (b : Book) (seat n : ℕ) (ok : Bool) (s : Seat) (eok : ok ≡ book_ok b) (es : s ≡ seat_of b seat) where
  pub seat_table : n ≡ first_of (seat_rows ok seat s.live) → n ≡ first_of (seat_refusals b seat)
  unfolding seat_rows seat_refusals bad_book bad_seat not_open
  seat_table e = rw (← es, ← eok) e

  pub open_table : (cell case k long short l m : ℕ) → l ≡ long_count long → m ≡ short_count short
      → n ≡ first_of (open_rows ok seat s.live cell case k l m) → n ≡ first_of (open_refusals b seat cell case k long short)
  unfolding open_rows open_refusals bad_book bad_seat is_open
  open_table cell case k long short l m el em e = e ∙ rw (el, em, eok, es)

  pub booking_table : (x : Booking) (used : ℕ) → used ≡ common b → n ≡ first_of (booking_rows ok used seat s x) → n ≡ first_of (booking_refusals b seat x)
  unfolding booking_rows booking_refusals bad_book bad_seat not_open seat_full room_used_up
  booking_table x used eu e = rw (← es, ← eok, ← eu) e

  pub cancel_table : (timeslot factor index : ℕ) (none : Bool) → none ≡ none_named s timeslot factor index
      → n ≡ first_of (cancel_rows ok seat s.live timeslot factor index none) → n ≡ first_of (cancel_refusals b seat timeslot factor index)
  unfolding cancel_rows cancel_refusals bad_book bad_seat not_open
  cancel_table timeslot factor index none en e = rw (← es, ← eok, ← en) e

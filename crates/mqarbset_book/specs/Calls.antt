-- What the calls on a book answer over C. Cited by the promises of open, book, cancel and close over C.
-- Assumes nothing.
use Rattle.std.specs.Prelude.{◌||◌, ◌∷◌, ℕ}
use Rattle.conditions.specs.Conditions.{bad_type, bad_booked_user, bad_timeslot, bad_code, bad_down_factor, bad_down_type, bad_control}
use Rattle.refusals.specs.Refusals.{Refusals, first_of, after}
use Rattle.bookings.specs.declared.Booking.{Booking}
use Rattle.classbook.specs.declared.Book.{Book}
use Rattle.classbook.specs.Calls.{BookAnswer, booking_refusals, booked, with_book}
use Rattle.mqarbset_book.specs.declared.MqBook.{MqBook}
use Rattle.mqarbset_book.specs.declared.MqBookAnswer.{MqBookAnswer}
use Rattle.mqarbset_book.specs.Mirror.{neither, read_direction, write_book}

-- an answer to the caller's book: refused, the very same bytes come back; else the book that was made
unfoldable pub handed_back : MqBook → BookAnswer → MqBookAnswer
handed_back b a = record { refusal = a.refusal; book = after a.refusal b (write_book a.book) }

-- ---- book, whose direction is a number (2, 4 to 8, 12 to 14, 16 to 20)

-- the booking that is asked for
unfoldable pub booking_over_c : ℕ → ℕ → ℕ → ℕ → ℕ → ℕ → ℕ → ℕ → Booking
booking_over_c timeslot direction burst factor index user tfci tpc =
    record {
      timeslot = timeslot;
      direction = read_direction direction;
      burst = burst;
      factor = factor;
      index = index;
      user = user;
      tfci = tfci;
      tpc = tpc;
    }

module _ (b : Book) (seat timeslot direction burst factor index user tfci tpc : ℕ) where
  abbrev asked : Booking
  asked = booking_over_c timeslot direction burst factor index user tfci tpc

  -- document 01's table, with 6 also for a direction that is neither
  unfoldable pub book_refusals_over_c : Refusals
  book_refusals_over_c =
      let d = read_direction direction in
      (2, bad_type burst) ∷
      (4, bad_booked_user burst user) ∷
      (5, bad_timeslot timeslot) ∷
      (6, neither direction || (bad_code factor index || bad_down_factor d factor)) ∷
      (7, bad_down_type d burst) ∷
      (8, bad_control d tfci tpc) ∷ booking_refusals b seat asked

  -- the seat's list with the booking in its place
  unfoldable pub book_answer_over_c : BookAnswer
  book_answer_over_c = with_book (first_of book_refusals_over_c) b (booked b seat asked)

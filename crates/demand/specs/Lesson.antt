-- A lesson: learners call on one book, in any order and as often as they like. Cited by specs/Demand.antt.
-- What a call answers and leaves is what its promise says: the definitions of classbook/specs/Calls.antt, listing/specs/Listing.antt and
-- summaries/specs/Summaries.antt. Assumes nothing.
use Rattle.std.specs.Prelude.{List, [], ◌∷◌, map, ℕ}
use Rattle.refusals.specs.Refusals.{Answer, refused, answered, Outcome, ◌leaving◌}
use Rattle.bookings.specs.declared.Booking.{Booking}
use Rattle.classbook.specs.declared.Book.{Book}
use Rattle.classbook.specs.declared.Request.{Request}
use Rattle.classbook.specs.Calls.{open_answer, book_answer, cancel_answer, close_answer}
use Rattle.listing.specs.Listing.{list_outcome}
use Rattle.summaries.specs.declared.Glance.{Glance}
use Rattle.summaries.specs.Summaries.{summary_answer}

-- "Calls: open ..; book ..; cancel by timeslot and code ..; close ..; list", and document 02's summary: what may be asked, with every argument but the seat; a list is
-- lent records
pub data Call : Type 0 where
  opens : (cell case k long short : ℕ) → Call
  books : (x : Request) → Call
  cancels : (timeslot factor index : ℕ) → Call
  closes : Call
  lists : (lent : List Booking) → Call
  glances : (timeslot : ℕ) → Call

-- a learner, who is known by the seat and names no other, makes a call
pub record Turn : Type 0 where
  pub seat : ℕ
  pub call : Call

-- what the learner gets: the refusal's number, or 0; of a list its answer, and the lent records afterwards; of a summary its answer
pub data Reply : Type 0 where
  number : ℕ → Reply
  listed : Outcome ℕ (List Booking) → Reply
  summed : Answer Glance → Reply

unfoldable pub reply : Book → ℕ → Call → Reply
reply b seat (opens cell case k long short) = number (open_answer b seat cell case k long short).refusal
reply b seat (books x) = number (book_answer b seat x).refusal
reply b seat (cancels timeslot factor index) = number (cancel_answer b seat timeslot factor index).refusal
reply b seat closes = number (close_answer b seat).refusal
reply b seat (lists lent) = listed (list_outcome b seat lent)
reply b seat (glances timeslot) = summed (summary_answer b seat timeslot)

-- the number with which a reply refuses; 0, which is nobody's number, where it does not
unfoldable pub number_of : Reply → ℕ
number_of (number n) = n
number_of (listed (refused n leaving records)) = n
number_of (listed (answered count leaving records)) = 0
number_of (summed (refused n)) = n
number_of (summed (answered glance)) = 0

-- the book that a call leaves; a list and a summary leave it as it is
unfoldable pub next : Book → ℕ → Call → Book
next b seat (opens cell case k long short) = (open_answer b seat cell case k long short).book
next b seat (books x) = (book_answer b seat x).book
next b seat (cancels timeslot factor index) = (cancel_answer b seat timeslot factor index).book
next b seat closes = (close_answer b seat).book
next b seat (lists lent) = b
next b seat (glances timeslot) = b

-- the book after all turns of a lesson
unfoldable pub run_through : Book → List Turn → Book
run_through b [] = b
run_through b (t ∷ ts) = run_through (next b t.seat t.call) ts

-- the log of a lesson: each turn with its reply
pub record Line : Type 0 where
  pub turn : Turn
  pub reply : Reply

unfoldable pub log : Book → List Turn → List Line
log b [] = []
log b (t ∷ ts) = record { turn = t; reply = reply b t.seat t.call } ∷ log (next b t.seat t.call) ts

-- the turns that a log tells of
unfoldable pub turns : List Line → List Turn
turns ls = map (λ (l : Line). l.turn) ls

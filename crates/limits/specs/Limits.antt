-- Demand 3 sets limits: lessons in which they are reached, among them the last of "Figures to
-- check", and what is then seen of the book.
-- Cited by proofs/Computed.antt and proofs/Reached.antt. Assumes nothing.
use Rattle.std.specs.Prelude.{List, [], ◌∷◌, ◌++◌, map, ℕ, zero, suc, ◌+◌, ◌/◌, ◌%◌, replicate}
use Rattle.laws.specs.Lists.{total}
use Rattle.conditions.specs.declared.Direction.TheVariants.{Up}
use Rattle.seats.specs.declared.Seat.{Seat}
use Rattle.seats.specs.Seats.{held}
use Rattle.classbook.specs.declared.Book.{Book}
use Rattle.classbook.specs.declared.Request.{Request}
use Rattle.classbook.specs.Book.{common}
use Rattle.demand.specs.Lesson.{opens, books, Turn, reply, number_of}
use Rattle.demand.specs.Demand.{holds}

-- the codes of factor 16 in number, from 0 on, sixteen to a timeslot: uplink, type 1, user 1, no
-- control
abbrev pub code : ℕ → Request
code n =
    record {
      timeslot = n / 16;
      direction = Up;
      burst = 1;
      factor = 16;
      index = n % 16 + 1;
      user = 1;
      tfci = 0;
      tpc = 0;
    }

-- a learner books n codes, from the last of them down
unfoldable pub booking : ℕ → ℕ → List Turn
booking seat zero = []
booking seat (suc n) = record { seat = seat; call = books (code n) } ∷ booking seat n

-- the learner's seat is opened first: cell 0, case 1 and k 14, so that its beacon is in timeslot 14
unfoldable pub taking : ℕ → ℕ → List Turn
taking seat n = record { seat = seat; call = opens 0 1 14 0 0 } ∷ booking seat n

-- n learners, from this seat on, book ten each
unfoldable pub tens : ℕ → ℕ → List Turn
tens seat zero = []
tens seat (suc n) = taking seat 10 ++ tens (suc seat) n

-- "Three seats hold 40, 40 and 30, nobody else any"
abbrev pub three_seats : List Turn
three_seats = taking 0 40 ++ taking 1 40 ++ taking 2 30

-- "and an empty seat still books 10": all others do
abbrev pub whole_class : List Turn
whole_class = three_seats ++ tens 3 13

-- the sixteen seats
abbrev pub class : List ℕ
class = 0 ∷ 1 ∷ 2 ∷ 3 ∷ 4 ∷ 5 ∷ 6 ∷ 7 ∷ 8 ∷ 9 ∷ 10 ∷ 11 ∷ 12 ∷ 13 ∷ 14 ∷ 15 ∷ []

-- what is seen of a book: what each seat holds; how many places are in use; how many of them lie
-- beyond the first tens; and which number each gets for one booking more, of a code that nobody has
-- in these lessons
pub record Seen : Type 0 where
  pub each : List ℕ
  pub places : ℕ
  pub beyond : ℕ
  pub one_more : List ℕ

abbrev pub seen : Book → Seen
seen b =
    record {
      each = map (λ (i : ℕ). holds b i) class;
      places = total (λ (s : Seat). held s) b.seats;
      beyond = common b;
      one_more = map (λ (i : ℕ). number_of (reply b i (books (code 40)))) class;
    }

-- "those at 40 get 19, the third gets 20"; nobody else has opened a seat, and 14 says so
abbrev pub at_three_seats : Seen
at_three_seats =
    record {
      each = 40 ∷ 40 ∷ 30 ∷ replicate 13 0;
      places = 110;
      beyond = 80;
      one_more = 19 ∷ 19 ∷ 20 ∷ replicate 13 14;
    }

-- all 240 places are in use
abbrev pub at_whole_class : Seen
at_whole_class =
    record {
      each = 40 ∷ 40 ∷ 30 ∷ replicate 13 10;
      places = 240;
      beyond = 80;
      one_more = 19 ∷ 19 ∷ 20 ∷ replicate 13 20;
    }

-- The lesson by value (demand/specs/Lesson.antt) that a lesson over C comes to, turn by turn, and
-- how its replies look over C. No reader of specs/DemandOverC.antt has to believe it. Cited by the
-- theorems of proofs/Step.antt and proofs/Turns.antt. Assumes nothing.
use Rattle.std.specs.Prelude.{cond, List, [], ◌∷◌, ◌++◌, map, ℕ, ◌*◌, take, drop, replicate}
use Rattle.refusals.specs.Refusals.{refused, answered, ◌leaving◌}
use Rattle.conditions.specs.Conditions.{too_short}
use Rattle.bookings.specs.declared.Booking.{Booking}
use Rattle.seats.specs.Seats.{blank}
use Rattle.demand.specs.Lesson.{Call, Turn, Reply, Line}
use Rattle.demand.specs.Lesson as value
use Rattle.mqarbset_answers.specs.Answers.{outcome_as_c}
use Rattle.mqarbset_answers.specs.Summaries.{summary_as_c}
use Rattle.mqarbset_book.specs.Mirror.{read_direction}
use Rattle.mqarbset_book.specs.Inside.{factor_beside}
use Rattle.mqarbset_list.specs.Records.{records_of}
use Rattle.demand_over_c.specs.LessonOverC.{CallOverC, opens, books, cancels, closes, lists}
use Rattle.demand_over_c.specs.LessonOverC.{glances, TurnOverC, ReplyOverC, number, listed}
use Rattle.demand_over_c.specs.LessonOverC.{summed, LineOverC}

-- the records that a list by value is lent: forty, where the lent bytes have room for them
unfoldable pub records_lent : List ℕ → List Booking
records_lent lent = replicate (cond (too_short 320 lent) 0 40) blank

-- the call by value; a direction that is neither is asked beside the factor 0, which is none (6)
unfoldable pub asked : CallOverC → Call
asked (opens cell case k long short) = value.opens cell case k long short
asked (books timeslot direction burst factor index user tfci tpc) =
    value.books
    (record {
      timeslot = timeslot;
      direction = read_direction direction;
      burst = burst;
      factor = factor_beside direction factor;
      index = index;
      user = user;
      tfci = tfci;
      tpc = tpc;
    })
asked (cancels timeslot factor index) = value.cancels timeslot factor index
asked closes = value.closes
asked (lists lent) = value.lists (records_lent lent)
asked (glances timeslot) = value.glances timeslot

-- the turns by value
unfoldable pub asked_turn : TurnOverC → Turn
asked_turn t = record { seat = t.seat; call = asked t.call }

unfoldable pub asked_turns : List TurnOverC → List Turn
asked_turns ts = map asked_turn ts

-- the bytes that a call lends: only a list lends any
unfoldable pub lent_by : CallOverC → List ℕ
lent_by (opens cell case k long short) = []
lent_by (books timeslot direction burst factor index user tfci tpc) = []
lent_by (cancels timeslot factor index) = []
lent_by closes = []
lent_by (lists lent) = lent
lent_by (glances timeslot) = []

-- a reply by value, over C: the same number; of a list the same count, and the bookings that it
-- wrote as records of eight bytes at the front of the lent bytes; of a summary the struct
unfoldable pub told : List ℕ → Reply → ReplyOverC
told lent (value.number n) = number n
told lent (value.listed (refused n leaving records)) = listed (outcome_as_c (refused n leaving lent))
told lent (value.listed (answered n leaving records)) =
    listed (outcome_as_c (answered n leaving (records_of (take n records) ++ drop (8 * n) lent)))
told lent (value.summed a) = summed (summary_as_c a)

-- turns over C with the replies of a log by value
unfoldable pub told_lines : List TurnOverC → List Line → List LineOverC
told_lines [] ls = []
told_lines (t ∷ ts) [] = []
told_lines (t ∷ ts) (l ∷ ls) =
    record { turn = t; reply = told (lent_by t.call) l.reply } ∷ told_lines ts ls

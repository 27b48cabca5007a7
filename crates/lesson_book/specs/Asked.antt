-- docs/LESSONS.md, its table: which call of document 01 a line asks for. v has what the words behind the call's name stand for, from the first on.
-- Cited by the promises here and by the crate `bench`. Assumes nothing.
use Rattle.std.specs.Prelude.{cond, ℕ, eqb}
use Rattle.classbook.specs.declared.Book.{Book}
use Rattle.classbook.specs.declared.Request.{Request}
use Rattle.classbook.specs.Calls.{BookAnswer, open_answer, book_answer, cancel_answer, close_answer}
use Rattle.lesson_words.specs.declared.numbers.Values.{Values}
use Rattle.lesson_words.specs.Numbers.{direction_by}

-- "`open SEAT CELL CASE K LONG SHORT`"
unfoldable pub open_asked : Values → Book → BookAnswer
open_asked v b = open_answer b v.first v.second v.third v.fourth v.fifth v.sixth

-- "`book SEAT SLOT up|down TYPE FACTOR INDEX USER TFCI TPC`": what is asked for behind SEAT
unfoldable pub request_of : Values → Request
request_of v =
    record {
      timeslot = v.second;
      direction = direction_by v.third;
      burst = v.fourth;
      factor = v.fifth;
      index = v.sixth;
      user = v.seventh;
      tfci = v.eighth;
      tpc = v.ninth;
    }

-- the same call, whole
unfoldable pub book_asked : Values → Book → BookAnswer
book_asked v b = book_answer b v.first (request_of v)

-- "`cancel SEAT SLOT FACTOR INDEX`"
unfoldable pub cancel_asked : Values → Book → BookAnswer
cancel_asked v b = cancel_answer b v.first v.second v.third v.fourth

-- "`close SEAT`"
unfoldable pub close_asked : Values → Book → BookAnswer
close_asked v b = close_answer b v.first

-- the four calls by number: 0 opens, 1 books, 2 cancels, any other closes
unfoldable pub asked_by : ℕ → Values → Book → BookAnswer
asked_by call v b = cond (eqb call 0) (open_asked v b) (cond (eqb call 1) (book_asked v b) (cond (eqb call 2) (cancel_asked v b) (close_asked v b)))

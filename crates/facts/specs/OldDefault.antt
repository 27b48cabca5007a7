-- Document 01: "In opening a seat, a count of 0 stands for 16 (long) or 6 (short)", which document
-- 02, C-17, has changed to 8 and 3. What a lesson answered while it held; no other definition has
-- that sentence. Cited by proofs/OldDefault.antt. Assumes nothing.
use Rattle.std.specs.Prelude.{Bool, false, cond, ◌||◌, List, [], ◌∷◌, ◌++◌, map, ℕ, eqb}
use Rattle.refusals.specs.Refusals.{first_of}
use Rattle.tables.specs.Tables.{settings_refusals}
use Rattle.seats.specs.Seats.{opened}
use Rattle.classbook.specs.declared.Book.{Book}
use Rattle.classbook.specs.Book.{with_seat}
use Rattle.classbook.specs.Conditions.{bad_book, bad_seat, is_open}
use Rattle.classbook.specs.Calls.{BookAnswer, with_book}
use Rattle.demand.specs.Lesson.{Call, opens, books, cancels, closes, lists, glances}
use Rattle.demand.specs.Lesson.{Turn, Reply, number, reply, next, Line, log}

-- "16 (long)"
unfoldable pub old_long : ℕ → ℕ
old_long long = cond (eqb long 0) 16 long

-- "or 6 (short)"
unfoldable pub old_short : ℕ → ℕ
old_short short = cond (eqb short 0) 6 short

-- what opening answered, and the book that it left
unfoldable pub old_open_answer : Book → ℕ → ℕ → ℕ → ℕ → ℕ → ℕ → BookAnswer
old_open_answer b seat cell case k long short =
    with_book
    (first_of
    (settings_refusals cell case k (old_long long) (old_short short) ++ (12, bad_book b) ∷ (13, bad_seat seat) ∷ (15, is_open b seat) ∷ []))
    b (with_seat b seat (opened cell case k (old_long long) (old_short short)))

-- a call of then: what its learner got. Only an opening reads a count of 0: the others are defined as
-- they were, and no definition of theirs names long_count or short_count
unfoldable pub old_reply : Book → ℕ → Call → Reply
old_reply b seat (opens cell case k long short) =
    number (old_open_answer b seat cell case k long short).refusal
old_reply b seat (books x) = reply b seat (books x)
old_reply b seat (cancels timeslot factor index) = reply b seat (cancels timeslot factor index)
old_reply b seat closes = reply b seat closes
old_reply b seat (lists lent) = reply b seat (lists lent)
old_reply b seat (glances timeslot) = reply b seat (glances timeslot)

-- and the book that it left
unfoldable pub old_next : Book → ℕ → Call → Book
old_next b seat (opens cell case k long short) = (old_open_answer b seat cell case k long short).book
old_next b seat (books x) = next b seat (books x)
old_next b seat (cancels timeslot factor index) = next b seat (cancels timeslot factor index)
old_next b seat closes = next b seat closes
old_next b seat (lists lent) = next b seat (lists lent)
old_next b seat (glances timeslot) = next b seat (glances timeslot)

-- the replies of a lesson of then
unfoldable pub old_replies : Book → List Turn → List Reply
old_replies b [] = []
old_replies b (t ∷ ts) = old_reply b t.seat t.call ∷ old_replies (old_next b t.seat t.call) ts

-- the book behind it
unfoldable pub old_run : Book → List Turn → Book
old_run b [] = b
old_run b (t ∷ ts) = old_run (old_next b t.seat t.call) ts

-- "must now give 16 and 6 outright": a call so written
unfoldable pub outright : Call → Call
outright (opens cell case k long short) = opens cell case k (old_long long) (old_short short)
outright (books x) = books x
outright (cancels timeslot factor index) = cancels timeslot factor index
outright closes = closes
outright (lists lent) = lists lent
outright (glances timeslot) = glances timeslot

-- and all calls of a lesson
unfoldable pub all_outright : List Turn → List Turn
all_outright ts = map (λ (t : Turn). record { seat = t.seat; call = outright t.call }) ts

-- whether a call leaves a count to the default
unfoldable pub leaves_count : Call → Bool
leaves_count (opens cell case k long short) = eqb long 0 || eqb short 0
leaves_count (books x) = false
leaves_count (cancels timeslot factor index) = false
leaves_count closes = false
leaves_count (lists lent) = false
leaves_count (glances timeslot) = false

-- the replies of a lesson today
unfoldable pub replies : Book → List Turn → List Reply
replies b ts = map (λ (l : Line). l.reply) (log b ts)

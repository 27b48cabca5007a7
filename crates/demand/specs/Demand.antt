-- Demand 3: what holds after every lesson, that is, every finite sequence of calls by the sixteen learners, in any order, from the empty book.
-- Proved in proofs/Demand3.antt. Turns that name a seat above 15 are not left out: they count too, and are refused. Assumes nothing.
use Rattle.std.specs.Prelude.{◌≡◌, Bool, cond, not, ◌&&◌, List, [], ◌∷◌, ℕ, ◌≤◌, ◌<◌, eqb, length}
use Rattle.classbook.specs.declared.Book.{Book}
use Rattle.classbook.specs.Book.{empty_book, seat_of, plan_of, common}
use Rattle.classbook.specs.Calls.{list_answer}
use Rattle.demand.specs.Lesson.{Call, Turn, reply, number_of, run_through, Line, log, turns}

-- how many bookings a learner holds: as many as the seat's plan lists
abbrev pub holds : Book → ℕ → ℕ
holds b i = length (plan_of (seat_of b i)).list

-- the book after a lesson
abbrev pub book_after : List Turn → Book
book_after ts = run_through empty_book ts

-- (a) "nobody holds more than 40 bookings"; and the seat's own count is what its plan lists, so no booking is out of sight
unfoldable pub AtMostForty : List Turn → Type 0
AtMostForty ts = (i : ℕ) → (holds (book_after ts) i ≤ 40) × ((seat_of (book_after ts) i).count ≡ holds (book_after ts) i)

-- (b) "at most 80 in all lie beyond the first tens"
unfoldable pub AtMostEighty : List Turn → Type 0
AtMostEighty ts = common (book_after ts) ≤ 80

-- (c) "whoever holds fewer than 10 is never refused 19 or 20", whatever is asked next
unfoldable pub TensAreSafe : List Turn → Type 0
TensAreSafe ts =
    (i : ℕ) (c : Call) → holds (book_after ts) i < 10
    → (number_of (reply (book_after ts) i c) ≡ 19 → ⊥) × (number_of (reply (book_after ts) i c) ≡ 20 → ⊥)

-- (d) "with a learner's own calls that were refused 20 struck out": a line of the log stays if it is the learner's own and was not refused 20
unfoldable pub stays : ℕ → Line → Bool
stays i l = eqb l.turn.seat i && not (eqb (number_of l.reply) 20)

unfoldable pub kept : ℕ → List Line → List Line
kept i [] = []
kept i (l ∷ ls) = cond (stays i l) (l ∷ kept i ls) (kept i ls)

-- what is left of the log of a lesson for learner i
abbrev pub left : ℕ → List Turn → List Line
left i ts = kept i (log empty_book ts)

-- "the rest of that learner's calls, made alone on an empty book, get the same answers": a lesson of these turns alone has what is left for its log;
-- "and leave the same plan"; and the list by value, which may be asked for after any turn and leaves the book as it is, is the same too
pub record AsIfAlone (i : ℕ) (ts : List Turn) : Type 0 where
  pub same_answers : log empty_book (turns (left i ts)) ≡ left i ts
  pub same_plan : plan_of (seat_of (book_after (turns (left i ts))) i) ≡ plan_of (seat_of (book_after ts) i)
  pub same_list : list_answer (book_after (turns (left i ts))) i ≡ list_answer (book_after ts) i

-- Demand 3, of one lesson
pub record Demand3 (ts : List Turn) : Type 0 where
  pub at_most_forty : AtMostForty ts
  pub at_most_eighty : AtMostEighty ts
  pub tens_are_safe : TensAreSafe ts
  pub as_if_alone : (i : ℕ) → AsIfAlone i ts

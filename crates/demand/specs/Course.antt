-- What a caller got, beside what the lesson says: how demand 3 is tied to what the calls promise.
-- Cited by proofs/Promises.antt. Assumes nothing.
use Rattle.std.specs.Prelude.{◌≡◌, List, [], ◌∷◌, ◌++◌, map, ℕ, take, drop}
use Rattle.refusals.specs.Refusals.{◌leaving◌, answer}
use Rattle.bookings.specs.declared.Booking.{Booking}
use Rattle.classbook.specs.declared.Book.{Book}
use Rattle.classbook.specs.Calls.{ListAnswer}
use Rattle.demand.specs.Lesson.{Call, Reply, listed, reply, next, Line}

-- the lesson says of a call what its caller got: this reply, and this book afterwards
pub record Says (b : Book) (seat : ℕ) (c : Call) (got : Reply) (kept : Book) : Type 0 where
  pub replies : reply b seat c ≡ got
  pub leaves : next b seat c ≡ kept

-- a list by value, and lent records into which it is written
unfoldable pub in_records : ListAnswer → List Booking → Reply
in_records r lent =
    let written = take r.count r.row ++ drop r.count lent in
    listed (answer r.refusal r.count leaving written)

-- calls one after the other: a turn and the reply that was got, and the book afterwards
pub record Called : Type 0 where
  pub line : Line
  pub kept : Book

-- each was made on the book that the one before it left, the first on b
unfoldable pub Course : Book → List Called → Type 0
Course b [] = Unit {0}
Course b (c ∷ cs) =
    let t = c.line.turn in
    Says b t.seat t.call c.line.reply c.kept × Course c.kept cs

-- its lines
unfoldable pub lines : List Called → List Line
lines cs = map (λ (c : Called). c.line) cs

-- the last book of it
unfoldable pub last_book : Book → List Called → Book
last_book b [] = b
last_book b (c ∷ cs) = last_book c.kept cs

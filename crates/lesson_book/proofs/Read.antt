-- A booking with its values taken apart, and the calls by number. Cited by the proofs of `request`, `booked` and `asked`.
-- Assumes nothing.
use mathlib.Core.Path.{◌≡◌, sym, ap, ◌∙◌}
use Prim.Native.Nat.{ℕ}
use borrow.Author.Tests.{ne_eqb}
use Rattle.conditions.specs.declared.Direction.{Direction}
use Rattle.classbook.specs.declared.Book.{Book}
use Rattle.classbook.specs.declared.Request.{Request}
use Rattle.classbook.specs.Calls.{BookAnswer, book_answer}
use Rattle.lesson_words.specs.declared.numbers.Values.{Values}
use Rattle.lesson_words.specs.Numbers.{direction_by}
use Rattle.lesson_book.specs.Asked.{request_of, book_asked, close_asked, asked_by}

-- a request with this direction
abbrev asking : Values → Direction → Request
asking v d =
    record {
      timeslot = v.second;
      direction = d;
      burst = v.fourth;
      factor = v.fifth;
      index = v.sixth;
      user = v.seventh;
      tfci = v.eighth;
      tpc = v.ninth;
    }

pub request_read : (v : Values) (d : Direction) → d ≡ direction_by v.third → asking v d ≡ request_of v
unfolding request_of
request_read v d e = ap (asking v) e

pub book_read : (v : Values) (b : Book) (x : Request) → x ≡ request_of v → book_answer b v.first x ≡ book_asked v b
unfolding book_asked
book_read v b x e = ap (book_answer b v.first) e

-- a number that is known, and one that is none of three
pub asked_as : (call k : ℕ) (v : Values) (b : Book) (r : BookAnswer) → call ≡ k → r ≡ asked_by k v b → r ≡ asked_by call v b
asked_as call k v b r n e = e ∙ ap (λ (i : ℕ). asked_by i v b) (sym n)

pub asked_last : (call : ℕ) (v : Values) (b : Book) (r : BookAnswer) → (call ≡ 0 → ⊥) → (call ≡ 1 → ⊥) → (call ≡ 2 → ⊥) → r ≡ close_asked v b → r ≡ asked_by call v b
unfolding asked_by
asked_last call v b r n0 n1 n2 e = rw (ne_eqb call 0 n0, ne_eqb call 1 n1, ne_eqb call 2 n2) e

-- Document 01, "Refusal numbers": what "the lowest is given" and "exactly when" speak of, over any
-- table of refusals. Cited by proofs/Orders.antt, proofs/Replies.antt and proofs/Calls.antt.
-- Assumes nothing.
use Rattle.std.specs.Prelude.{◌≡◌, Bool, true, false, not, ◌&&◌, ◌||◌, List, [], ◌∷◌, ◌++◌, map, ◌↔◌, ℕ, ◌<◌, eqb, leb}
use Rattle.laws.specs.Lists.{chain, every}
use Rattle.refusals.specs.Refusals.{Answer, refused, answered, Outcome, ◌leaving◌, Refusals, answer}
use Rattle.classbook.specs.declared.Book.{Book}
use Rattle.classbook.specs.Calls.{BookAnswer}

-- the numbers of a table, row by row as they are read
unfoldable pub numbers_of : Refusals → List ℕ
numbers_of t = map (λ (row : ℕ × Bool). row.0) t

-- from 1 upwards, none below the one before it. A number may stand in several rows: 10 has several
-- conditions
unfoldable pub ascending : List ℕ → Bool
ascending numbers = chain leb (1 ∷ numbers)

-- "its condition holds": that of some row with the number n
unfoldable pub applies : ℕ → Refusals → Bool
applies n [] = false
applies n (row ∷ rest) = (row.1 && eqb n row.0) || applies n rest

-- no condition of these rows holds
unfoldable pub none_holds : Refusals → Bool
none_holds rows = every (λ (row : ℕ × Bool). not row.1) rows

-- in the order of reading, whatever the numbers are: a row of number n holds, and none that is read
-- before it does
pub record FirstToHold (n : ℕ) (t : Refusals) : Type 0 where
  pub before : Refusals
  pub behind : Refusals
  pub table : t ≡ before ++ (n, true) ∷ behind
  pub none_before : none_holds before ≡ true

-- "its condition holds and no lower one of that call does"
pub record LowestToHold (n : ℕ) (t : Refusals) : Type 0 where
  pub holds : applies n t ≡ true
  pub none_lower : (m : ℕ) → m < n → applies m t ≡ false

-- What document 01 says of a call that reads this table and replies so: the table has the call's
-- numbers, and they ascend; the call is refused n exactly when n is the lowest that holds; and it
-- is answered exactly when none does.
pub record Exactly {A : Type 0} (numbers : List ℕ) (t : Refusals) (reply : Answer A) : Type 0 where
  pub its_numbers : numbers_of t ≡ numbers
  pub in_order : ascending numbers ≡ true
  pub lowest : (n : ℕ) → (reply ≡ refused n) ↔ LowestToHold n t
  pub none : ((value : A) × (reply ≡ answered value)) ↔ ((m : ℕ) → applies m t ≡ false)

-- the reply of a call that was lent something
unfoldable pub answer_of : {A M : Type 0} → Outcome A M → Answer A
answer_of (reply leaving lent) = reply

-- the reply of a call on the book: a refusal's number, or where that is 0 the book
unfoldable pub book_reply : BookAnswer → Answer Book
book_reply a = answer a.refusal a.book

-- Document 01, "Refusal numbers": the words of each number, the column Condition of its table, but for 3, 4 and 16, which document 02 makes untrue, and 22 to 24,
-- which it adds: it gives none for these, and docs/LESSONS.md, "Refusals", has theirs. Cited by the promise of `words`.
-- Assumes nothing.
use Rattle.std.specs.Prelude.{cond, List, [], ◌∷◌, ◌++◌, ℕ, ◌-◌, eqb, ltb, length, drop, get_or}
use Prim.Native.String.{String}
use Rattle.laws.specs.Text.{bytes}
use Rattle.refusals.specs.Refusals.{Outcome, ◌leaving◌, first_of, answer, after}

-- in order, from 1
unfoldable pub conditions : List String
conditions =
    "cell parameter above 127" ∷
    "burst type not 1, 2 or 3" ∷
    "midamble count not 4, 8 or 16 (types 1, 3), not 3 or 6 (type 2); in opening a seat 0 is allowed too" ∷
    "user not permitted under the count (in a booking: outside 1..16 for types 1, 3; 1..6 for type 2)" ∷
    "timeslot above 14" ∷
    "spreading factor not 1, 2, 4, 8, 16; code index outside 1..factor; where a direction is given, downlink with a factor other than 1 or 16" ∷
    "type 3 in downlink" ∷
    "TFCI bits not 0, 4, 8, 16, 32; TPC bits not 0 or 2; TPC 2 in downlink" ∷
    "synchronisation case not 1 or 2; k above 14 (case 1) or above 6 (case 2)" ∷
    "PICH with type 3; indicator length not 2, 4, 8; frames per block outside 1..4; indicator number too large; paging bit outside the 244 or 276; timeslot chip above 2559; midamble chip outside 1 to its length" ∷
    "lent memory, read or written, shorter than the call needs (a list: fewer than 40 records, however few it writes)" ∷
    "the book breaks its conditions" ∷
    "seat above 15" ∷
    "seat not open" ∷
    "seat open already" ∷
    "user not permitted under this seat's count" ∷
    "clash inside this seat's own cell" ∷
    "beacon rule" ∷
    "seat holds 40" ∷
    "common room used up" ∷
    "no such booking" ∷
    "level not 1 to 2047" ∷
    "place above the midamble length" ∷
    "sample not a whole number from -2047 to 2047" ∷ []

-- a number that is no refusal's has no words
unfoldable pub words_of : ℕ → List ℕ
unfolding conditions
words_of n = cond (eqb n 0) [] (bytes (get_or conditions (n - 1) ""))

-- 11: lent memory "shorter than the call needs"; else the text takes the first places, further bytes stay as they were, and its length is returned
unfoldable pub putting : List ℕ → List ℕ → Outcome ℕ (List ℕ)
putting text out =
    let n = first_of ((11, ltb (length out) (length text)) ∷ []) in
    answer n (length text) leaving after n out (text ++ drop (length text) out)

unfoldable pub words_outcome : ℕ → List ℕ → Outcome ℕ (List ℕ)
words_outcome number out = putting (words_of number) out

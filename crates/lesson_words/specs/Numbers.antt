-- docs/LESSONS.md, "Lines": what the words behind a call's name stand for. Cited by the promises of `numbers` and by the crates `lesson_book` and `bench`.
-- Assumes nothing.
use Rattle.std.specs.Prelude.{Bool, true, false, not, ◌&&◌, ◌||◌, cond, List, [], ◌∷◌, ℕ, suc, ◌+◌, ◌-◌, ◌*◌, eqb, leb, length, get_or, set, replicate, Option, Some, None, is_some, unwrap_or}
use Rattle.laws.specs.Lists.{every}
use Rattle.conditions.specs.declared.Direction.{Direction}
use Rattle.conditions.specs.declared.Direction.TheVariants.{Up, Down}
use Rattle.lesson_words.specs.Words.{word_in, rest_of, is_text}
use Rattle.lesson_words.specs.declared.numbers.Values.{Values}

-- "the digits 0 to 9"
unfoldable pub is_digit : ℕ → Bool
is_digit b = leb 48 b && leb b 57

-- the value of digits behind a number
unfoldable pub value_from : ℕ → List ℕ → ℕ
value_from v [] = v
value_from v (b ∷ l) = value_from (v * 10 + (b - 48)) l

-- nothing stands there
unfoldable pub is_none : List ℕ → Bool
is_none l = eqb (length l) 0

-- "A number is one or more of the digits 0 to 9, of at most 4294967295"
unfoldable pub is_numeral : List ℕ → Bool
is_numeral l = not (is_none l) && (every is_digit l && leb (value_from 0 l) 4294967295)

-- 0 or 1
unfoldable pub is_bit : ℕ → Bool
is_bit b = eqb b 48 || eqb b 49

-- "words of the digits 0 and 1, of any length"
unfoldable pub is_row : List ℕ → Bool
is_row l = not (is_none l) && every is_bit l

-- a word that is what is expected has its value
unfoldable pub value_if : Bool → ℕ → Option ℕ
value_if true v = Some v
value_if false v = None

unfoldable pub numeral_of : List ℕ → Option ℕ
numeral_of w = value_if (is_numeral w) (value_from 0 w)

-- `down` is 1 and `up` is 0
unfoldable pub turn_of : List ℕ → Option ℕ
turn_of w = cond (is_text "down" w) (value_if true 1) (value_if (is_text "up" w) 0)

-- a row has no value, 0 stands for it: it is read where it stands
unfoldable pub row_of : List ℕ → Option ℕ
row_of w = value_if (is_row w) 0

-- what is expected of a word, in a letter: `n` (110) a number, `d` (100) a direction, any other a row
unfoldable pub meant_by : ℕ → List ℕ → Option ℕ
meant_by kind w = cond (eqb kind 110) (numeral_of w) (cond (eqb kind 100) (turn_of w) (row_of w))

-- the words of a text are of these kinds, and no more follow
unfoldable pub fits : List ℕ → List ℕ → Bool
fits [] l = is_none (word_in l)
fits (kind ∷ kinds) l = is_some (meant_by kind (word_in l)) && fits kinds (rest_of l)

-- the value of each, 0 where it is not what is expected, goes to the next place of v, from place i on
unfoldable pub values_from : ℕ → List ℕ → List ℕ → List ℕ → List ℕ
values_from i [] l v = v
values_from i (kind ∷ kinds) l v = values_from (suc i) kinds (rest_of l) (set v i (unwrap_or (meant_by kind (word_in l)) 0))

-- nine places by name
unfoldable pub nine_of : List ℕ → Values
nine_of v =
    record {
      first = get_or v 0 0;
      second = get_or v 1 0;
      third = get_or v 2 0;
      fourth = get_or v 3 0;
      fifth = get_or v 4 0;
      sixth = get_or v 5 0;
      seventh = get_or v 6 0;
      eighth = get_or v 7 0;
      ninth = get_or v 8 0;
    }

-- the values of a text's words: 0 in the places that no word takes
unfoldable pub values_of : List ℕ → List ℕ → Values
values_of kinds l = nine_of (values_from 0 kinds l (replicate 9 0))

unfoldable pub direction_if : Bool → Direction
direction_if true = Down
direction_if false = Up

-- a direction by its value
unfoldable pub direction_by : ℕ → Direction
direction_by value = direction_if (eqb value 1)

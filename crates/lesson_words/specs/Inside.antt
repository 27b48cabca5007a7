-- What functions of `words` promise the code of the crate `bench`: no definition of what a line does cites it.
-- Assumes nothing.
use Rattle.std.specs.Prelude.{cond, List, [], ℕ, zero, suc}
use Rattle.lesson_words.specs.Words.{word_in, rest_of, same_text}

-- what stands behind the first n words of a text
unfoldable pub behind_words : ℕ → List ℕ → List ℕ
behind_words zero l = l
behind_words (suc n) l = behind_words n (rest_of l)

-- a table has so many calls, each with its name and the kinds of its words: the number of the call of this name, counted from 0; the count, where there is none
unfoldable pub number_in : ℕ → List ℕ → List ℕ → ℕ
number_in zero name table = 0
number_in (suc n) name table = cond (same_text name (word_in table)) 0 (suc (number_in n name (rest_of (rest_of table))))

-- and its kinds
unfoldable pub kinds_in : ℕ → List ℕ → List ℕ → List ℕ
kinds_in zero name table = []
kinds_in (suc n) name table = cond (same_text name (word_in table)) (word_in (rest_of table)) (kinds_in n name (rest_of (rest_of table)))

-- What functions of `calls` promise each other: calls by their numbers in the program's table. Cited by the promises of `made`, `worded` and `tabled`.
-- Assumes nothing.
use Rattle.std.specs.Prelude.{ℕ, cond, List, nat_lt}
use Rattle.lesson_words.specs.declared.numbers.Values.{Values}
use Rattle.lesson_words.specs.Numbers.{fits, values_of}
use Rattle.lesson_words.specs.Inside.{number_in, kinds_in}
use Rattle.classbook.specs.declared.Book.{Book}
use Rattle.lesson_book.specs.Asked.{asked_by}

-- the first four change the book
unfoldable pub made_by : ℕ → Values → Book → Book
made_by call v b = cond (nat_lt call 4) (asked_by call v b).book b

-- a call is made if its words are of these kinds
unfoldable pub worded_by : ℕ → List ℕ → List ℕ → Book → Book
worded_by call kinds rest b = cond (fits kinds rest) (made_by call (values_of kinds rest) b) b

-- the call of this name in a table of twenty
unfoldable pub tabled_by : List ℕ → List ℕ → List ℕ → Book → Book
tabled_by table name rest b = worded_by (number_in 20 name table) (kinds_in 20 name table) rest b

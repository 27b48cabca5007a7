-- docs/LESSONS.md: what a line does to the book. Only open, book, cancel and close change it, by document 01's calls; every other line leaves it.
-- Cited by the promises of `calls` and `lines`. Assumes nothing.
use Rattle.std.specs.Prelude.{ℕ, cond, List, length, take, nat_lt}
use Prim.Native.String.{String}
use Rattle.laws.specs.Text.{bytes}
use Rattle.classbook.specs.declared.Book.{Book}
use Rattle.classbook.specs.Calls.{BookAnswer}
use Rattle.lesson_words.specs.Words.{is_byte, until, word_in, rest_of, is_text}
use Rattle.lesson_words.specs.declared.numbers.Values.{Values}
use Rattle.lesson_words.specs.Numbers.{fits, values_of}
use Rattle.lesson_book.specs.Asked.{open_asked, book_asked, cancel_asked, close_asked}

-- the call is made, if the words behind its name are of these kinds; "A line that is no call": "The book stays as it was"
unfoldable pub made_line : String → (Values → Book → BookAnswer) → List ℕ → Book → Book
made_line kinds asked rest b = cond (fits (bytes kinds) rest) (asked (values_of (bytes kinds) rest) b).book b

-- a line by its first word, and what stands behind it
unfoldable pub named_line : List ℕ → List ℕ → Book → Book
named_line name rest b =
    cond (is_text "open" name) (made_line "nnnnnn" open_asked rest b)
    (cond (is_text "book" name) (made_line "nndnnnnnn" book_asked rest b)
    (cond (is_text "cancel" name) (made_line "nnnn" cancel_asked rest b)
    (cond (is_text "close" name) (made_line "n" close_asked rest b) b)))

-- "`#` starts a comment wherever it stands: it and what follows on the line is passed over"
unfoldable pub bare : List ℕ → List ℕ
bare line = take (until (is_byte 35) line) line

-- the book after a line
unfoldable pub book_after_line : List ℕ → Book → Book
book_after_line line b = named_line (word_in (bare line)) (rest_of (bare line)) b

-- a line is gathered in so many places, and "a line longer than 8,191 bytes" fills them all: it is no call
unfoldable pub gathered_line : ℕ → List ℕ → Book → Book
gathered_line held line b = cond (nat_lt held (length line)) (book_after_line (take held line) b) b

-- What becomes of bytes that are none of the few that they may be: a book that holds one breaks its conditions, so that every call on it gets 12. Cited by no proof: it
-- is for the reader of the promises. Assumes nothing.
use mathlib.Core.Path.{◌≡◌, refl}
use mathlib.Core.Bool.{false}
use Rattle.laws.specs.Lists.{every}
use Rattle.seats.specs.Seats.{is_bare, seat_ok}
use Rattle.classbook.specs.Book.{book_ok}
use Rattle.mqarbset_book.specs.declared.MqBook.{MqBook}
use Rattle.mqarbset_book.specs.Mirror.{proper, broken_book, read_book}

-- the broken book is broken
pub broken : book_ok broken_book ≡ false
unfolding broken_book book_ok every seat_ok is_bare
broken = refl

-- a book that holds such a byte breaks its conditions
pub damaged : (b : MqBook) → proper b ≡ false → book_ok (read_book b) ≡ false
unfolding read_book
damaged b e = simp e broken

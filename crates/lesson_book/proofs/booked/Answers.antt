-- `lesson_book::booked` meets its contract: the first value is the seat, and the others are the request.
-- Assumes nothing.
use mathlib.Core.Path.{◌∙◌}
use Rattle.lesson_book.proofs.Read.{book_read}
use Rattle.lesson_book.proofs.booked.Goals as goal

pub returns : goal.returns
returns c = c.book_code.ensures ∙ book_read _ _ _ c.request.ensures

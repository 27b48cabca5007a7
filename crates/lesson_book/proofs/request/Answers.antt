-- `lesson_book::request` meets its contract: each value goes to its field.
-- Assumes nothing.
use Rattle.lesson_book.proofs.Read.{request_read}
use Rattle.lesson_book.proofs.request.Goals as goal

pub returns : goal.returns
returns c = request_read _ _ c.direction.ensures

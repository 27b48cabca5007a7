-- `lesson_book::asked` meets its contract, number by number.
-- Assumes nothing.
use Rattle.lesson_book.specs.Asked.{asked_by}
use Rattle.lesson_book.proofs.Read.{asked_as, asked_last}
use Rattle.lesson_book.proofs.asked.Goals as goal

pub returns-in-0 : goal.returns-in-0
unfolding asked_by
returns-in-0 c = asked_as _ 0 _ _ _ c.in-0.is c.opened.ensures

pub returns-in-1 : goal.returns-in-1
unfolding asked_by
returns-in-1 c = asked_as _ 1 _ _ _ c.in-1.is c.booked.ensures

pub returns-in-2 : goal.returns-in-2
unfolding asked_by
returns-in-2 c = asked_as _ 2 _ _ _ c.in-2.is c.cancelled.ensures

pub returns-in_default : goal.returns-in_default
returns-in_default c = asked_last _ _ _ _ c.in_default.in_default-own.rest.0.0.1 c.in_default.in_default-own.rest.0.1 c.in_default.in_default-own.rest.1 c.closed.ensures

-- `mqarbset::book::mq_empty_book` meets its promise: by computation.
-- Assumes nothing.
use mathlib.Core.Path.{refl}
use Rattle.laws.specs.Lists.{some, total}
use Rattle.leaves.specs.Leaves.{pattern}
use Rattle.slots.specs.Slots.{covered_in, way_in, count_in, type_two_in, slot_of, summary_of}
use Rattle.seats.specs.Seats.{closed}
use Rattle.classbook.specs.Book.{empty_book}
use Rattle.mqarbset_book.specs.Mirror.{write_direction, write_booking, write_way, write_slot, write_seat, write_book}
use Rattle.mqarbset.proofs.book.mq_empty_book.Goals as goal

pub returns : goal.returns
unfolding write_book empty_book write_seat closed write_booking write_direction write_slot summary_of slot_of covered_in way_in count_in type_two_in write_way pattern some total
returns c = refl

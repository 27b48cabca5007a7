-- `mqarbset_list::list` meets its promise: short memory, refused, or the seat's bookings written.
-- Assumes nothing.
use native.Mathlib.Omega.{arith}
use Rattle.mqarbset_book.specs.Mirror.{read_book}
use Rattle.mqarbset_list.proofs.Listed.{list_short, list_refused, list_few, list_room, list_given}
use Rattle.mqarbset_list.proofs.list.Goals as goal

pub returns-in_err-when : goal.returns-in_err-when
returns-in_err-when c =
    let w = c.in_err-when.ensures in
    list_short _ _ _ _ _ c.from_residual.ensures.1 w.refused.0 w.refused.1

pub returns-in_err-l : goal.returns-in_err-l
returns-in_err-l c = list_refused _ _ _ c.in_ok-when.ensures.passed _ _ c.from_residual-in_err-l.ensures.1 c.in_err-l.ensures

pub shared_ref_as_front-row : goal.shared_ref_as_front-row
shared_ref_as_front-row c = list_few (read_book c.args.b.now) c.args.seat c.args.out.now c.in_ok-when.ensures.passed c.in_ok-l.l c.in_ok-l.ensures

pub put_all-requires : goal.put_all-requires
put_all-requires c = list_room (read_book c.args.b.now) c.args.seat c.args.out.now c.in_ok-when.ensures.passed c.in_ok-l.l c.in_ok-l.ensures

pub returns : goal.returns
returns c = list_given (read_book c.args.b.now) c.args.seat c.args.out.now c.in_ok-when.ensures.passed c.in_ok-l.l c.in_ok-l.ensures _ (omega arith) c.put_all.ensures

-- `listing::list` meets its contract: what is selected is written and replied.
-- Assumes nothing.
use native.Mathlib.Omega.{arith}
use Rattle.listing.proofs.Answered.{refused_list, at_most, given_list}
use Rattle.listing.proofs.list.Goals as goal

pub returns-in_err-l : goal.returns-in_err-l
returns-in_err-l c = refused_list c.args.b.now c.args.seat c.args.out.now _ _ c.from_residual.ensures.1 c.in_err-l.ensures

pub fill-requires : goal.fill-requires
fill-requires c = at_most c.args.b.now c.args.seat c.args.out.now c.in_ok-l.l c.in_ok-l.ensures

pub returns : goal.returns
returns c = given_list c.args.b.now c.args.seat c.args.out.now c.in_ok-l.l c.in_ok-l.ensures (omega arith) _ c.fill.ensures

-- `lesson_replies::paging_calls::owner` meets its promise: an indicator, or nobody.
-- Assumes nothing.
use Rattle.std.proofs.Common.{ap}
use Rattle.paging.specs.Calls.{said_owner}
use Rattle.lesson_replies.specs.Replies.{owner_reply, owner_asked}
use Rattle.lesson_replies.proofs.Replied.{made_of, passed_on}
use Rattle.lesson_replies.proofs.paging_calls.owner.Goals as goal

pub returns-in_err-owner : goal.returns-in_err-owner
unfolding owner_reply owner_asked
returns-in_err-owner c = passed_on _ _ c.from_residual.ensures.1 (ap owner_reply c.in_err-owner.ensures)

pub returns-in-None : goal.returns-in-None
unfolding owner_reply owner_asked
returns-in-None c = made_of owner_reply said_owner c.in-None.is c.in_ok-owner.ensures

pub returns-in-Some : goal.returns-in-Some
unfolding owner_reply owner_asked
returns-in-Some c = made_of owner_reply said_owner c.in-Some.is c.in_ok-owner.ensures

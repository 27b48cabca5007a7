-- `lesson_replies::midamble_calls::chip` meets its promise: the power, as a reply.
-- Assumes nothing.
use Rattle.std.proofs.Common.{ap, ◌∙◌}
use Rattle.refusals.specs.Refusals.{answered}
use Rattle.lesson_replies.specs.declared.replies.Reply.TheVariants.{Chip}
use Rattle.lesson_replies.specs.Replies.{chip_reply, chip_asked}
use Rattle.lesson_replies.proofs.Replied.{passed_on}
use Rattle.lesson_replies.proofs.midamble_calls.chip.Goals as goal

pub returns-in_err-power : goal.returns-in_err-power
unfolding chip_reply chip_asked
returns-in_err-power c = passed_on _ _ c.from_residual.ensures.1 (ap chip_reply c.in_err-power.ensures)

pub returns : goal.returns
unfolding chip_reply chip_asked
returns c = ap (λ n. answered (Chip n)) c.from.ensures ∙ ap chip_reply c.in_ok-power.ensures

-- `lesson_replies::summary_calls::summed` meets its promise: a glance, as a line.
-- Assumes nothing.
use Rattle.std.proofs.Common.{ap, ◌∙◌}
use Rattle.refusals.specs.Refusals.{answered}
use Rattle.summaries.specs.Summaries.{glance_said}
use Rattle.lesson_replies.specs.Summary.{summary_reply, summary_asked}
use Rattle.lesson_replies.proofs.Replied.{passed_on}
use Rattle.lesson_replies.proofs.summary_calls.summed.Goals as goal

pub returns-in_err-g : goal.returns-in_err-g
unfolding summary_reply summary_asked glance_said
returns-in_err-g c = passed_on _ _ c.from_residual.ensures.1 (ap summary_reply c.in_err-g.ensures)

pub returns : goal.returns
unfolding summary_reply summary_asked glance_said
returns c = ap answered c.glanced.ensures ∙ ap summary_reply c.in_ok-g.ensures

-- `lesson_replies::midamble_calls::bytes_lent` meets its promise: the lesser of both.
-- Assumes nothing.
use Rattle.std.proofs.Common.{◌∙◌}
use Rattle.lesson_replies.proofs.Lent.{lesser}
use Rattle.lesson_replies.proofs.midamble_calls.bytes_lent.Goals as goal

pub returns : goal.returns
returns c = c.min.ensures ∙ lesser c.args.length c.args.room

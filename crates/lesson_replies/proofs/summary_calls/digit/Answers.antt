-- `lesson_replies::summary_calls::digit` meets its promise: the leaf's bit.
-- Assumes nothing.
use Rattle.std.proofs.Common.{ℕ, ◌/◌, ◌%◌, ◌^◌, ap}
use Rattle.lesson_replies.specs.Summary.{leaf_digit}
use Rattle.lesson_replies.proofs.summary_calls.digit.Goals as goal

pub returns : goal.returns
unfolding leaf_digit
returns c = ap (λ (n : ℕ). n / 2 ^ c.args.leaf % 2) c.from.ensures

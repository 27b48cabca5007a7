-- `lesson_replies::summary_calls::numbers_of` writes leaf by leaf.
use Rattle.std.proofs.Common.{◌≡◌}
use Rattle.lesson_replies.proofs.LeafDigits.{written}
use Rattle.lesson_replies.proofs.summary_calls.numbers_of.Given as goal

abbrev pub invariant-loop-i : goal.invariant-loop-i
invariant-loop-i l = l.numbers ≡ written l.fn.leaves l.fn.count l.i

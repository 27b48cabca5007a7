-- `lesson_replies::timeslot_calls::at_chip` meets its promise: the part that lies there, with the direction that the second word stands for.
-- Assumes nothing.
use Rattle.std.proofs.Common.{◌≡◌, ap, ◌∙◌}
use Rattle.conditions.specs.declared.Direction.{Direction}
use Rattle.lesson_words.specs.declared.numbers.Values.{Values}
use Rattle.lesson_words.specs.Numbers.{direction_by}
use Rattle.refusals.specs.Refusals.{Answer, answered}
use Rattle.timeslots.specs.Timeslots.{Part}
use Rattle.timeslots.specs.Calls.{said_lying, at_answer}
use Rattle.lesson_replies.specs.Replies.{part_reply, at_reply, symbol_reply, at_asked}
use Rattle.lesson_replies.proofs.Replied.{made_of, passed_on}
use Rattle.lesson_replies.proofs.timeslot_calls.at_chip.Goals as goal

-- the call was made with that direction
by_word : (v : Values) (x : _) (d : Direction) → d ≡ direction_by v.second → x ≡ at_answer v.first d v.third v.fourth v.fifth v.sixth
    → x ≡ at_answer v.first (direction_by v.second) v.third v.fourth v.fifth v.sixth
by_word v x d e p = p ∙ ap (λ (y : Direction). at_answer v.first y v.third v.fourth v.fifth v.sixth) e

pub returns-in_err-n : goal.returns-in_err-n
unfolding part_reply at_reply at_asked
returns-in_err-n c = passed_on _ _ c.from_residual.ensures.1 (ap at_reply (by_word c.args.v _ _ c.direction-d.ensures c.in_err-n.ensures))

pub returns-in-Midamble : goal.returns-in-Midamble
unfolding part_reply at_reply at_asked
returns-in-Midamble c = made_of at_reply said_lying c.in-Midamble.is (by_word c.args.v _ _ c.direction-d.ensures c.in_ok-n.ensures)

pub returns-in-Guard : goal.returns-in-Guard
unfolding part_reply at_reply at_asked
returns-in-Guard c = made_of at_reply said_lying c.in-Guard.is (by_word c.args.v _ _ c.direction-d.ensures c.in_ok-n.ensures)

pub returns-in-Symbol : goal.returns-in-Symbol
unfolding part_reply at_reply symbol_reply at_asked
returns-in-Symbol c = ap answered c.symbol.ensures ∙ made_of at_reply said_lying c.in-Symbol.is (by_word c.args.v _ _ c.direction-d.ensures c.in_ok-n.ensures)

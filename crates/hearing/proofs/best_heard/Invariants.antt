-- `hearing::best_heard` meets its contract: before each user the loudest of the lower ones is heard, with its strength. Assumes nothing.
use Rattle.hearing.proofs.Best.{HeardSoFar}
use Rattle.hearing.proofs.best_heard.Given as goal

abbrev pub invariant-loop-user : goal.invariant-loop-user
invariant-loop-user l = HeardSoFar l.re l.im l.signs l.burst l.count l.user l.best l.strength

-- `signal_card::fill` meets its promise: the first places hold the floats of the chips so far, and the rest is as it was.
-- Assumes nothing.
use mathlib.Core.Path.{◌≡◌}
use mathlib.Core.List.{◌++◌}
use Prim.Native.Nat.{◌*◌}
use lib.ListN.{take, drop}
use Rattle.signal_card.specs.SignalCard.{floats_of}
use Rattle.signal_card.proofs.fill.Given as goal

abbrev pub invariant-loop-k : goal.invariant-loop-k
invariant-loop-k l = l.out ≡ floats_of l.level (take l.k l.chips) ++ drop (2 * l.k) l.initial.out

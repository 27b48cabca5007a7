-- `mqarbset_list::put_all` meets its promise: a record a turn.
-- Assumes nothing.
use mathlib.Core.Path.{◌≡◌}
use mathlib.Core.List.{◌++◌}
use Prim.Native.Nat.{◌*◌}
use lib.ListN.{take, drop}
use Rattle.mqarbset_list.specs.Records.{records_of}
use Rattle.mqarbset_list.proofs.put_all.Given as goal

abbrev pub invariant-loop-i : goal.invariant-loop-i
invariant-loop-i l = l.out ≡ records_of (take l.i l.row) ++ drop (8 * l.i) l.initial.out

-- `paging_bits::put_runs` meets its contract: one run a turn, from the front.
-- Assumes nothing.
use Rattle.std.proofs.Common.{◌≡◌, ◌++◌, ◌*◌, drop}
use Rattle.paging_bits.specs.Bits.{runs_of}
use Rattle.paging_bits.proofs.put_runs.Given as goal

abbrev pub invariant-loop-q : goal.invariant-loop-q
invariant-loop-q l = l.out ≡ runs_of l.length l.settings l.q ++ drop (l.q * l.length) l.initial.out

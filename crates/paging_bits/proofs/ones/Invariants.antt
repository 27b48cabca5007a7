-- `paging_bits::ones` meets its contract: the count so far is the definition's for both runs.
-- Assumes nothing.
use Rattle.std.proofs.Common.{◌≡◌, ◌+◌}
use Rattle.paging_bits.specs.Bits.{ones_from}
use Rattle.paging_bits.proofs.ones.Given as goal

abbrev pub invariant-loop-j : goal.invariant-loop-j
invariant-loop-j l = l.sum ≡ ones_from l.one 0 l.j + ones_from l.other 0 l.j

-- `paging_bits::scan` meets its contract: one reading a turn, from the front.
-- Assumes nothing.
use Rattle.std.proofs.Common.{◌≡◌, ◌++◌, drop}
use Rattle.paging_bits.specs.Bits.{readings_of}
use Rattle.paging_bits.proofs.scan.Given as goal

abbrev pub invariant-loop-q : goal.invariant-loop-q
invariant-loop-q l = l.out ≡ readings_of l.length l.q l.half l.bits ++ drop l.q l.initial.out

-- `paging_bits::scan` meets its contract: one reading a turn, from the front; the runs of q begin at q * length in each half.
-- Assumes nothing.
use mathlib.Core.Path.{◌≡◌, ◌∙◌}
use Prim.Native.Nat.{◌+◌, ◌-◌, ◌*◌, ◌≤◌}
use native.Mathlib.Nat.{mul_comm}
use native.Mathlib.Omega.{arith}
use Rattle.std.proofs.lemmas.List.Edits.{length-between}
use Rattle.laws.proofs.Runs.{run_none}
use Rattle.paging_bits.specs.Bits.{reading_of, readings_of}
use Rattle.paging_bits.proofs.OneRun.{run_within}
use Rattle.paging_bits.proofs.Counted.{counted, row_turn}
use Rattle.paging_bits.proofs.scan.Goals as goal

pub loop-q-init : goal.loop-q-init
unfolding readings_of
loop-q-init c = run_none _ _

pub loop-q-preserved : goal.loop-q-preserved
unfolding readings_of
loop-q-preserved c =
    let l = c.loop-q in
    let a = c.args in
    let from = l.q * a.length in
    let within : from + a.length ≤ a.half = omega (arith, run_within a.length a.per l.q c.loop-q-test.true, mul_comm l.q a.length, c.requires.0.whole) in
    let one : from + a.length - from ≡ a.length = omega arith in
    let size = length-between a.bits.now from (from + a.length) (omega arith) ∙ one in
    row_turn (reading_of a.length a.half a.bits.now) _ _ _ _ (omega arith) l.invariant
    (counted a.length a.per a.half l.q _ _ _ a.bits.now c.requires.0 c.loop-q-test.true size c.ones-ones.ensures c.reading.ensures)

-- `paging_bits::ones` meets its contract: the count so far is the definition's for both runs.
-- Assumes nothing.
use mathlib.Core.Path.{refl}
use native.Mathlib.Omega.{arith}
use lib.ListN.{get_or}
use Rattle.paging_bits.specs.Bits.{ones_from}
use Rattle.paging_bits.proofs.Counted.{ones_turn, ones_most, as_bit_most}
use Rattle.paging_bits.proofs.ones.Goals as goal

pub loop-j-init : goal.loop-j-init
unfolding ones_from
loop-j-init c = refl

pub overflow_add-as_bit : goal.overflow_add-as_bit
overflow_add-as_bit c =
    let a = c.args in
    let j = c.loop-j.j in
    omega (arith, as_bit_most (get_or a.one.now j 0), as_bit_most (get_or a.other.now j 0))

pub overflow_add-sum : goal.overflow_add-sum
overflow_add-sum c =
    let a = c.args in
    let j = c.loop-j.j in
    omega (arith, ones_most a.one.now 0 j, ones_most a.other.now 0 j, as_bit_most (get_or a.one.now j 0), as_bit_most (get_or a.other.now j 0))

pub loop-j-preserved : goal.loop-j-preserved
loop-j-preserved c =
    let a = c.args in
    omega (arith, ones_turn a.one.now c.loop-j.j, ones_turn a.other.now c.loop-j.j)

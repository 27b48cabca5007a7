-- `blocks::fill` meets its contract: nothing, or elements from the user's shift on, behind the chips that are written.
-- Assumes nothing.
use mathlib.Core.Path.{ap}
use Prim.Native.Nat.{ℕ, ◌+◌}
use native.Mathlib.Omega.{arith}
use Rattle.codes.proofs.Numbers.{length_high, shift_low}
use Rattle.blocks.proofs.Chips.{few, none_in, read_on}
use Rattle.blocks.proofs.fill.Goals as goal

pub returns-then-chips-eq0 : goal.returns-then-chips-eq0
returns-then-chips-eq0 c =
    let a = c.args in
    none_in a.place.now a.chips a.out.now c.requires.3 c.if-chips-eq0.true

pub overflow_add-by : goal.overflow_add-by
overflow_add-by c =
    let a = c.args in
    let q = c.requires in
    record { fits = omega (arith, c.shift.ensures, shift_low a.place.now.burst a.place.now.user q.1, q.2, length_high a.place.now.burst) }

pub fill_elements-requires : goal.fill_elements-requires
fill_elements-requires c =
    let a = c.args in
    let q = c.requires in
    let some = few a.place.now a.chips a.out.now q.3 in
    let high = length_high a.place.now.burst in
    (q.0, omega (arith, c.shift.ensures, shift_low a.place.now.burst a.place.now.user q.1, q.2, high), omega (arith, some.0, high), some.1)

pub returns : goal.returns
returns c =
    let a = c.args in
    let q = c.requires in
    read_on a.place.now a.chips _ a.out.now _ q.2 q.3 (ap (λ (n : ℕ). n + a.place.now.written) c.shift.ensures) c.fill_elements.ensures

-- `signal_card::fill` meets its promise: the first places hold the floats of the chips so far, and the rest is as it was.
-- Assumes nothing.
use mathlib.Core.Path.{◌≡◌, ap, ◌∙◌}
use mathlib.Core.List.{List, ◌++◌}
use Prim.Native.Nat.{ℕ, ◌*◌}
use native.Mathlib.Omega.{arith}
use lib.ListN.{length, drop, length-set}
use lib.Seq.{take_all}
use Rattle.signal_card.specs.SignalCard.{floats_of}
use Rattle.signal_card.proofs.Parts.{taken_real, taken_imaginary}
use Rattle.signal_card.proofs.Rows.{floats_none, floats_turn}
use Rattle.signal_card.proofs.fill.Goals as goal

pub loop-k-init : goal.loop-k-init
loop-k-init c = floats_none _ _

pub bounds-out-k-in-loop-k : goal.bounds-out-k-in-loop-k
bounds-out-k-in-loop-k c = simp length-set (omega arith)

pub loop-k-preserved : goal.loop-k-preserved
loop-k-preserved c =
    let q = c.chip_of-c.ensures in
    let low = c.requires.powers _ c.loop-k-test.true in
    let four = c.four_chips-four.ensures in
    floats_turn _ _ _ _ _ _ _ c.loop-k-test.true (omega arith) c.loop-k.invariant (taken_real _ _ _ _ four q low) (taken_imaginary _ _ _ _ four q low)

pub returns : goal.returns
returns c =
    let a = c.args in
    let k = c.loop-k.k in
    let past : k ≡ length a.chips.now = omega arith in
    c.loop-k.invariant
    ∙ ap (λ (l : List ℕ). floats_of a.level l ++ drop (2 * k) a.out.now) (take_all k a.chips.now (omega arith))
    ∙ ap (λ (n : ℕ). floats_of a.level a.chips.now ++ drop (2 * n) a.out.now) past

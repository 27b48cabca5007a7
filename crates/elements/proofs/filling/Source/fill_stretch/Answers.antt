-- `elements::filling::Source::fill_stretch` meets its contract: after k turns the first 4k places hold the elements of k digits, and the rest is as it was.
-- Assumes nothing.
use mathlib.Core.Path.{◌≡◌, refl, ap, ◌∙◌}
use Prim.Native.Nat.{ℕ, ◌*◌}
use native.Mathlib.Omega.{arith}
use lib.ListN.{length}
use Rattle.laws.proofs.Runs.{run_none, run_fits, rest_length}
use Rattle.elements.specs.Inside.{elements_after}
use Rattle.elements.proofs.Digits.{digit_low}
use Rattle.elements.proofs.Steps.{digit_turn}
use Rattle.elements.proofs.filling.Source.fill_stretch.Goals as goal

pub loop-k-init : goal.loop-k-init
loop-k-init c = (refl, run_none _ _)

pub put_four-requires : goal.put_four-requires
put_four-requires c =
    let l = c.loop-k in
    (digit_low _ _ _ c.digit_at-digit.ensures, omega (arith, rest_length (4 * l.k) l.out))

pub loop-k-preserved : goal.loop-k-preserved
loop-k-preserved c =
    let l = c.loop-k in
    let a = c.args in
    let written = digit_turn _ a.self.now.row.good a.g l.k _ a.out.now l.out _ (omega arith) c.digit_at-digit.ensures l.invariant.1 c.put_four.ensures in
    (ap length written ∙ run_fits _ _ a.out.now (omega arith), written)

pub returns : goal.returns
returns c =
    let l = c.loop-k in
    let a = c.args in
    let past : l.k ≡ a.digits = omega arith in
    l.invariant.1 ∙ ap (λ (n : ℕ). elements_after a.self.now.row.bytes.now (4 * a.g) (4 * n) a.out.now) past

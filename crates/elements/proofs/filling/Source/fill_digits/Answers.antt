-- `elements::filling::Source::fill_digits` meets its contract: after each stretch the first places hold the elements of the digits that are done, and the rest is as it was.
-- Assumes nothing.
use mathlib.Core.Path.{◌≡◌, refl, ap, ◌∙◌}
use Prim.Native.Nat.{ℕ, ◌+◌, ◌*◌, ◌%◌}
use native.Mathlib.Nat.{le_antisymm, mod-lt}
use native.Mathlib.Omega.{arith}
use lib.ListN.{length}
use Rattle.laws.proofs.Runs.{run_none, run_fits, rest_length}
use Rattle.elements.specs.Inside.{elements_after}
use Rattle.elements.proofs.Steps.{stretch_turn, lesser_of, some_done, first_again}
use Rattle.elements.proofs.filling.Source.fill_digits.Goals as goal

pub loop-done-init : goal.loop-done-init
loop-done-init c =
    let a = c.args in
    let g : a.g ≡ a.g + 0 = omega arith in
    (omega arith, mod-lt _ (omega arith), (λ h. ap (λ (n : ℕ). n % c.digits-all.result) g), refl, run_none _ _)

pub fill_stretch-requires : goal.fill_stretch-requires
fill_stretch-requires c =
    let l = c.loop-done in
    let s = c.min-some.ensures in
    (omega (arith, s), omega (arith, s, rest_length (4 * l.done) l.out))

pub loop-done-smaller : goal.loop-done-smaller
loop-done-smaller c =
    let l = c.loop-done in
    let s = c.min-some.ensures in
    omega (arith, s, some_done _ c.args.g l.at l.done _ _ l.invariant.1 (omega arith) (lesser_of _ _ _ s))

pub loop-done-preserved : goal.loop-done-preserved
loop-done-preserved c =
    let l = c.loop-done in
    let a = c.args in
    let s = c.min-some.ensures in
    let here = l.invariant.2 (omega arith) in
    let written = stretch_turn _ a.self.now.row.good a.g l.at l.done _ a.out.now l.out _ (here ∙ ap (λ (n : ℕ). (a.g + l.done) % n) c.digits-all.ensures) l.invariant.4 c.fill_stretch.ensures in (
      omega (arith, s),
      omega arith,
      (λ left. first_again _ a.g l.at l.done _ a.digits l.invariant.1 (omega arith) (lesser_of _ _ _ s) here left),
      ap length written ∙ run_fits _ _ a.out.now (omega (arith, s)),
      written,
    )

pub returns : goal.returns
returns c =
    let l = c.loop-done in
    let a = c.args in
    let past : l.done ≡ a.digits = le_antisymm l.invariant.0 c.loop-done-test.false in
    l.invariant.4 ∙ ap (λ (n : ℕ). elements_after a.self.now.row.bytes.now (4 * a.g) (4 * n) a.out.now) past

-- `correlation::signs_of` meets its contract: each place has the sign that its remainder and its power make. Assumes nothing.
use borrow.Author.Rules.{rules}
use borrow.Author.Count.{below_none}
use mathlib.Core.Path.{◌≡◌, refl, ◌∙◌}
use Prim.Native.Nat.{ℕ, ◌+◌, ◌%◌}
use native.Mathlib.Omega.{arith}
use lib.ListN.{get_or, length-set}
use lib.Ieee.{Float, of_bits, of_int}
use Rattle.signal_card.proofs.Parts.{level_fits}
use Rattle.correlation.specs.Inside.{sign_from}
use Rattle.correlation.proofs.Turning.{store}
use Rattle.correlation.proofs.signs_of.Goals as goal

pub loop-i-init : goal.loop-i-init
loop-i-init c = (refl, below_none _)

pub overflow_cast-past : goal.overflow_cast-past
overflow_cast-past c = let p = (c.requires.by_index c.loop-i.i c.loop-i-test.true) in search rules

pub overflow_add-past : goal.overflow_add-past
overflow_add-past c = let p = (c.requires.by_index c.loop-i.i c.loop-i-test.true) in search rules

pub overflow_sub-past : goal.overflow_sub-past
overflow_sub-past c = let p = (c.requires.by_index c.loop-i.i c.loop-i-test.true) in search rules

pub int_to_float-out : goal.int_to_float-out
int_to_float-out c = level_fits _ (omega arith)

pub loop-i-preserved : goal.loop-i-preserved
unfolding of_bits of_int
loop-i-preserved c =
    let inv = c.loop-i.invariant in (
      length-set c.loop-i.out c.loop-i.i _ ∙ inv.0,
      store (λ (m : ℕ) (x : Float). x ≡ sign_from ((m + 1) % 4) (get_or c.args.powers.now m 0)) c.loop-i.out c.loop-i.i _ (omega arith) inv.1 refl,
    )

pub shape_of-out : goal.shape_of-out
shape_of-out c = c.loop-i.invariant.0

pub returns : goal.returns
returns c = λ m h. c.loop-i.invariant.1 m (omega arith)

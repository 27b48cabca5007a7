-- `correlation::halve` meets its contract: the columns before k have their other half, the others are as they were. Assumes nothing.
use borrow.Author.Count.{below_none}
use mathlib.Core.Path.{◌≡◌, refl, ◌∙◌}
use Prim.Native.Nat.{ℕ, ◌+◌, ◌*◌}
use native.Mathlib.Omega.{arith}
use lib.ListN.{get_or, length-set}
use lib.Seq.{get_or-set_other}
use lib.IntN.{◌+ℤ◌}
use lib.Ieee.{Float, nan, binary32, of_int}
use Rattle.samples.specs.Samples.{sample_of}
use Rattle.correlation.proofs.Turning.{store}
use Rattle.correlation.proofs.Halves.{sum_of_two}
use Rattle.correlation.proofs.halve.Goals as goal

pub loop-k-init : goal.loop-k-init
loop-k-init c = (refl, below_none _, (λ j h. refl))

pub loop-k-preserved : goal.loop-k-preserved
loop-k-preserved c =
    let inv = c.loop-k.invariant in
    let k = c.loop-k.k in
    let half = c.args.half in
    let was = c.args.columns.now in
    let p = c.requires in (
      length-set c.loop-k.columns k _ ∙ inv.0,
      store (λ (j : ℕ) (x : Float). x ≡ of_int binary32 (sample_of (get_or was j nan) +ℤ sample_of (get_or was (j + half) nan))) c.loop-k.columns k _ (omega arith) inv.1
          (sum_of_two was (2 * half) k (k + half) _ _ p.2 (omega arith) (omega arith) (inv.2 k (omega arith)) (inv.2 (k + half) (omega arith))),
      (λ j h. get_or-set_other c.loop-k.columns k j _ nan (λ same. absurd (omega arith)) ∙ inv.2 j (omega arith)),
    )

pub shape_of-columns : goal.shape_of-columns
shape_of-columns c = c.loop-k.invariant.0

pub returns : goal.returns
returns c = λ k h. c.loop-k.invariant.1 k (omega arith)

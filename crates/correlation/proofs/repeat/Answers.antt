-- `correlation::repeat` meets its contract: a place behind the period has what stands one period before it. Assumes nothing.
use mathlib.Core.Path.{◌≡◌, refl, sym, ap, ◌∙◌}
use Prim.Native.Nat.{ℕ, ◌-◌, ◌%◌}
use native.Mathlib.Nat.{mod-eq_of_lt, mod-eq-sub-mod}
use native.Mathlib.Omega.{arith}
use lib.ListN.{get_or, length-set}
use lib.Ieee.{Float, nan}
use Rattle.correlation.proofs.Turning.{store}
use Rattle.correlation.proofs.repeat.Goals as goal

pub loop-i-init : goal.loop-i-init
loop-i-init c = (refl, (λ m h. ap (λ (n : ℕ). get_or c.args.out.now n nan) (sym (mod-eq_of_lt h))))

pub loop-i-preserved : goal.loop-i-preserved
loop-i-preserved c =
    let inv = c.loop-i.invariant in
    let i = c.loop-i.i in
    let P = c.args.period in (
      length-set c.loop-i.out i _ ∙ inv.0,
      store (λ (m : ℕ) (x : Float). x ≡ get_or c.args.out.now (m % P) nan) c.loop-i.out i _ (omega arith) inv.1
          (inv.1 (i - P) (omega arith) ∙ ap (λ (n : ℕ). get_or c.args.out.now n nan) (sym (mod-eq-sub-mod (omega arith)))),
    )

pub shape_of-out : goal.shape_of-out
shape_of-out c = c.loop-i.invariant.0

pub returns : goal.returns
returns c = λ m h. c.loop-i.invariant.1 m (omega arith)

-- `correlating::sixteen` meets its contract: the rows are long enough at each turn. Assumes nothing.
use mathlib.Core.Path.{◌≡◌, refl, sym, subst}
use Prim.Native.Nat.{ℕ, ◌+◌, ◌≤◌, ◌<◌}
use native.Mathlib.Omega.{arith}
use lib.ListN.{length-set}
use Rattle.codes.specs.Codes.{code_of}
use Rattle.codes.proofs.Numbers.{shift_low, shift_in_period}
use Rattle.correlating.proofs.sixteen.Goals as goal

long-code : (code_of 1).length ≡ 512
unfolding code_of
long-code = refl

pub user_sums-s-requires : goal.user_sums-s-requires
user_sums-s-requires c =
    let p = c.requires in
    let far : c.shift-by.result ≤ 480 = subst (λ (n : ℕ). n ≤ 480) (sym c.shift-by.ensures) (shift_low 1 (c.loop-user.user + 1) (omega arith)) in
    let inside : c.shift-by.result < (code_of 1).period = subst (λ (n : ℕ). n < (code_of 1).period) (sym c.shift-by.ensures) (shift_in_period 1 (c.loop-user.user + 1) (omega arith)) in
    record {
      count_bound = (omega arith, refl, far);
      count_in_bounds = (p.in_bounds.0, p.in_bounds.1, omega (arith, long-code));
      samples = (p.samples.0, p.samples.1, record { all = λ m h. p.samples.2.all m (omega (arith, long-code)) });
    }

-- `correlation::repeat` meets its contract: a place behind the period has what stands one period before it. Assumes nothing.
use mathlib.Core.Path.{◌≡◌}
use Prim.Native.Nat.{ℕ, ◌%◌, ◌<◌}
use lib.ListN.{length, get_or}
use lib.Ieee.{nan}
use Rattle.correlation.proofs.repeat.Given as goal

abbrev pub invariant-loop-i : goal.invariant-loop-i
invariant-loop-i l =
    (length l.out ≡ length l.initial.out) × ((m : ℕ) → m < l.i → get_or l.out m nan ≡ get_or l.initial.out (m % l.period) nan)

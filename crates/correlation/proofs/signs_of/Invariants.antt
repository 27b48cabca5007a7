-- `correlation::signs_of` meets its contract: each place has the sign that its remainder and its power make. Assumes nothing.
use mathlib.Core.Path.{◌≡◌}
use Prim.Native.Nat.{ℕ, ◌+◌, ◌%◌, ◌<◌}
use lib.ListN.{length, get_or}
use lib.Ieee.{nan}
use Rattle.correlation.specs.Inside.{sign_from}
use Rattle.correlation.proofs.signs_of.Given as goal

abbrev pub invariant-loop-i : goal.invariant-loop-i
invariant-loop-i l = (length l.out ≡ length l.initial.out) × ((m : ℕ) → m < l.i → get_or l.out m nan ≡ sign_from ((m + 1) % 4) (get_or l.powers m 0))

-- `correlation::turn` meets its contract: four samples a turn of the loop, turned back once, twice, three times and not at all. Assumes nothing.
use mathlib.Core.Path.{◌≡◌}
use Prim.Native.Nat.{◌*◌}
use lib.ListN.{length}
use Rattle.correlation.specs.Inside.{Turned}
use Rattle.correlation.proofs.turn.Given as goal

abbrev pub invariant-loop-q : goal.invariant-loop-q
invariant-loop-q l = (length l.re ≡ length l.initial.re) × (length l.im ≡ length l.initial.im) × Turned l.row (4 * l.q) l.re l.im

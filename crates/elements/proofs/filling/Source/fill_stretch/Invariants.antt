-- `elements::filling::Source::fill_stretch` meets its contract: after k turns the first 4k places hold the elements of k digits, and the rest is as it was.
-- Assumes nothing.
use mathlib.Core.Path.{◌≡◌}
use Prim.Native.Nat.{◌*◌}
use lib.ListN.{length}
use Rattle.elements.specs.Inside.{elements_after}
use Rattle.elements.proofs.filling.Source.fill_stretch.Given as goal

abbrev pub invariant-loop-k : goal.invariant-loop-k
invariant-loop-k l = (length l.out ≡ length l.initial.out) × (l.out ≡ elements_after l.self.row.bytes.now (4 * l.g) (4 * l.k) l.initial.out)

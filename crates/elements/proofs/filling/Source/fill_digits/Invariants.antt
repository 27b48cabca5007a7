-- `elements::filling::Source::fill_digits` meets its contract: after each stretch the first places hold the elements of the digits that are done, and the rest is as it was.
-- Assumes nothing.
use mathlib.Core.Path.{◌≡◌}
use Prim.Native.Nat.{◌+◌, ◌-◌, ◌*◌, ◌%◌, ◌<◌, ◌≤◌}
use lib.ListN.{length}
use Rattle.elements.specs.Inside.{elements_after}
use Rattle.elements.proofs.filling.Source.fill_digits.Given as goal

abbrev pub invariant-loop-done : goal.invariant-loop-done
invariant-loop-done l = (l.done ≤ l.digits) × (l.at < l.all) × (l.done < l.digits → l.at ≡ (l.g + l.done) % l.all) × (length l.out ≡ length l.initial.out) × (l.out ≡ elements_after l.self.row.bytes.now (4 * l.g) (4 * l.done) l.initial.out)

abbrev pub decreases-loop-done : goal.decreases-loop-done
decreases-loop-done l = l.digits - l.done

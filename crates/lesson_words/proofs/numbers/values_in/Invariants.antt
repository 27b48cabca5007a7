-- `lesson_words::numbers::values_in` meets its contract: what was read is stored, and the rest is to be read.
-- Assumes nothing.
use mathlib.Core.Path.{◌≡◌}
use Prim.Native.Nat.{◌≤◌}
use lib.ListN.{length, drop, replicate}
use Rattle.lesson_words.specs.Numbers.{values_from}
use Rattle.lesson_words.proofs.numbers.values_in.Given as goal

abbrev pub invariant-loop-i : goal.invariant-loop-i
invariant-loop-i l =
    (l.to ≤ length l.text) × (values_from l.i (drop l.i l.kinds) (drop l.to l.text) l.places ≡ values_from 0 l.kinds l.text (replicate 9 0))

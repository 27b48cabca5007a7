-- `lesson_words::samples::read` meets its contract: what was read is written, and the rest is to be read.
-- Assumes nothing.
use mathlib.Core.Path.{◌≡◌}
use mathlib.Core.List.{◌++◌}
use Prim.Native.Nat.{◌-◌, ◌≤◌}
use lib.ListN.{length, take, drop}
use Rattle.lesson_words.specs.Samples.{are_samples, samples_of}
use Rattle.lesson_words.proofs.samples.read.Given as goal

abbrev pub invariant-loop-n : goal.invariant-loop-n
invariant-loop-n l =
    (l.to ≤ length l.text) × (are_samples (length l.initial.row - l.n) (drop l.to l.text) ≡ are_samples (length l.initial.row) (drop l.at l.text))
    × (take l.n l.row ++ samples_of (length l.initial.row - l.n) (drop l.to l.text) ≡ samples_of (length l.initial.row) (drop l.at l.text))

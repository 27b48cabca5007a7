-- `lesson_words::words::look_up` meets its contract: the entries that were passed have other names.
-- Assumes nothing.
use mathlib.Core.Path.{◌≡◌}
use Prim.Native.Nat.{◌+◌, ◌-◌, ◌≤◌}
use lib.ListN.{length, drop}
use Rattle.lesson_words.specs.Inside.{number_in, kinds_in}
use Rattle.lesson_words.proofs.words.look_up.Given as goal

abbrev pub invariant-loop-number : goal.invariant-loop-number
invariant-loop-number l =
    (l.at ≤ length l.table) × (l.number + number_in (l.count - l.number) l.name (drop l.at l.table) ≡ number_in l.count l.name l.table)
    × (kinds_in (l.count - l.number) l.name (drop l.at l.table) ≡ kinds_in l.count l.name l.table)

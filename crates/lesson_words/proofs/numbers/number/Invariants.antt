-- `lesson_words::numbers::number` meets its contract. The invariant: what was passed are digits, and the digits that are left, read behind `value`, give the word's value.
-- Assumes nothing.
use mathlib.Core.Path.{◌≡◌}
use Prim.Native.Nat.{◌≤◌}
use lib.ListN.{drop}
use Rattle.laws.specs.Lists.{every}
use Rattle.lesson_words.specs.Numbers.{is_digit, value_from}
use Rattle.lesson_words.proofs.numbers.number.Given as goal

abbrev pub invariant-loop-b : goal.invariant-loop-b
invariant-loop-b l =
    (l.value ≤ 4294967295) × (value_from l.value (drop l.b-index l.word) ≡ value_from 0 l.word) × (every is_digit (drop l.b-index l.word) ≡ every is_digit l.word)

-- `lesson_words::words::behind` meets its contract: word after word is passed.
-- Assumes nothing.
use mathlib.Core.Path.{◌≡◌}
use Prim.Native.Nat.{◌-◌, ◌≤◌}
use lib.ListN.{length, drop}
use Rattle.lesson_words.specs.Inside.{behind_words}
use Rattle.lesson_words.proofs.words.behind.Given as goal

abbrev pub invariant-loop : goal.invariant-loop
invariant-loop l = (l.at ≤ length l.text) × (behind_words (l.count - l.counter) (drop l.at l.text) ≡ behind_words l.count l.text)

-- `lesson_replies::summary_calls::glanced` meets its promise: part by part.
-- Assumes nothing.
use Rattle.std.proofs.Common.{◌≡◌, ℕ, List, [], ◌∷◌, ◌++◌, ap, ◌∙◌}
use Rattle.lesson_replies.specs.declared.summary_calls.SummaryLine.{SummaryLine}
use Rattle.lesson_replies.specs.Summary.{leaf_digits, glance_line}
use Rattle.lesson_replies.proofs.summary_calls.glanced.Goals as goal

parts : (f g : ℕ) (l m : List ℕ) → f ≡ g → l ≡ m → ◌≡◌ {A = SummaryLine} (record { form = f; numbers = l }) (record { form = g; numbers = m })
parts f g l m e q = rw (e, q)

pub returns : goal.returns
unfolding glance_line
returns c = parts _ _ _ _ c.turn.ensures (c.numbers_of.ensures ∙ ap (λ (n : ℕ). leaf_digits c.args.g.leaves ++ (n ∷ [])) c.from.ensures)

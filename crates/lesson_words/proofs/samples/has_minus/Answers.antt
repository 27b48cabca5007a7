-- `lesson_words::samples::has_minus` meets its contract: the word's first byte.
-- Assumes nothing.
use mathlib.Core.Path.{refl, ◌∙◌}
use Rattle.lesson_words.proofs.Sampled.{minus_first}
use Rattle.lesson_words.proofs.samples.has_minus.Goals as goal

pub returns : goal.returns
returns c = c.starts_with.ensures.value ∙ minus_first _ _ refl

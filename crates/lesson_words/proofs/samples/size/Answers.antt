-- `lesson_words::samples::size` meets its contract: a number of six digits is not too large.
-- Assumes nothing.
use Rattle.lesson_words.proofs.Sampled.{too_many, is_size_lem}
use Rattle.lesson_words.proofs.samples.size.Goals as goal

pub returns-then-digits-gt6 : goal.returns-then-digits-gt6
returns-then-digits-gt6 c = too_many _ c.if-digits-gt6.true

pub returns : goal.returns
returns c = is_size_lem _ _ c.if-digits-gt6.false c.number.ensures

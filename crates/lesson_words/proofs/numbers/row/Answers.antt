-- `lesson_words::numbers::row` meets its contract: all bytes are the digits 0 and 1, and there is one.
-- Assumes nothing.
use mathlib.Core.Path.{◌∙◌}
use Rattle.std.proofs.Common.{rules}
use Rattle.std.proofs.lemmas.Iterator.{YieldsList-from_slice}
use Rattle.std.proofs.lemmas.Iterator.Search.{all_from_yields_List}
use Rattle.lesson_words.specs.Numbers.{is_bit}
use Rattle.lesson_words.proofs.Reading.{is_row_lem}
use Rattle.lesson_words.proofs.numbers.row.Goals as goal

pub returns : goal.returns
unfolding is_bit
returns c =
    c.then_some.ensures
    ∙ is_row_lem _ _ _ c.is_empty.ensures
    (all_from_yields_List is_bit _ _ _ c.all-bits.ensures.ran (YieldsList-from_slice _ c.iter.ensures.rest) (λ x b q k. search rules))

-- `elements::reading::LentRow::digit_at` meets its contract: one byte, one half of it.
-- Assumes nothing.
use mathlib.Core.Path.{sym}
use Rattle.elements.proofs.Digits.{digits_at}
use Rattle.elements.proofs.reading.LentRow.digit_at.Goals as goal

pub returns : goal.returns
returns c = sym (digits_at _ _ c.requires)

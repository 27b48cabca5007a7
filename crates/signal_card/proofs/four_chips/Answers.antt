-- `signal_card::four_chips` meets its promise: the level's float is exact, and so is its negation.
-- Assumes nothing.
use Rattle.signal_card.proofs.Parts.{level_fits, four_powers}
use Rattle.signal_card.proofs.four_chips.Goals as goal

pub int_to_float-a : goal.int_to_float-a
int_to_float-a c = level_fits _ c.requires.1

pub returns : goal.returns
returns c = four_powers _ c.requires.0 c.requires.1

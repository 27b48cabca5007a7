-- `elements::filling::digit_powers` meets its contract: the table of the source has the four powers of each digit, by computation.
-- Assumes nothing.
use mathlib.Core.Path.{refl}
use Rattle.laws.specs.Runs.{run}
use Rattle.elements.specs.Elements.{turned}
use Rattle.elements.specs.Inside.{power_in, four_of, fours_of}
use Rattle.elements.proofs.filling.digit_powers.Goals as goal

pub returns : goal.returns
unfolding fours_of four_of run power_in turned
returns c = refl

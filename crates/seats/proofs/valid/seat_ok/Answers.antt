-- `seats::valid::seat_ok` meets its contract: its tests are those of the definition, and neighbours are enough.
-- Assumes nothing.
use mathlib.Core.Path.{ap, ◌∙◌}
use Rattle.laws.specs.Lists.{every}
use Rattle.seats.specs.Seats.{is_blank}
use Rattle.seats.proofs.Tested.{seat_tested}
use Rattle.seats.proofs.valid.seat_ok.Goals as goal

pub returns : goal.returns
returns c =
    seat_tested c.args.s.now _ _ _ _ c.is_bare-bare.ensures c.settings_pass-good.ensures c.row_ok.ensures
    (c.all_blank.ensures ∙ ap (every is_blank) c.rest.ensures)

-- `plans::take_out` meets its contract: what stands behind the place is moved one down.
-- Assumes nothing.
use mathlib.Core.Path.{ap, ◌∙◌}
use mathlib.Core.List.{List}
use native.Mathlib.Omega.{arith}
use lib.ListN.{set}
use Rattle.bookings.specs.declared.Booking.{Booking}
use Rattle.plans.proofs.Moved.{moved_down}
use Rattle.plans.proofs.take_out.Goals as goal

pub returns-clause-moved : goal.returns-clause-moved
returns-clause-moved c =
    let a = c.args in
    ap (λ (r : List Booking). set r 39 a.blank) c.copy_within.ensures.after ∙ moved_down a.row.now a.p a.blank a.blank (omega arith) c.requires

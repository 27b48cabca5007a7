-- `plans::put_in` meets its contract: what stands from the place on is moved one up.
-- Assumes nothing.
use mathlib.Core.Path.{ap, ◌∙◌}
use mathlib.Core.List.{List}
use native.Mathlib.Omega.{arith}
use lib.ListN.{set}
use Rattle.bookings.specs.declared.Booking.{Booking}
use Rattle.plans.proofs.Moved.{moved_up}
use Rattle.plans.proofs.put_in.Goals as goal

pub returns-clause-moved : goal.returns-clause-moved
returns-clause-moved c =
    let a = c.args in
    ap (λ (r : List Booking). set r a.p a.x) c.copy_within.ensures.after ∙ moved_up a.row.now a.p a.x a.x (omega arith) c.requires

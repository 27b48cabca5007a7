-- `classbook::walk::check` meets its contract: the seats passed meet their conditions, what was summed and what is left to sum make the common room, and the seat is the one that is named.
-- Assumes nothing.
use mathlib.Core.Path.{◌≡◌}
use mathlib.Core.Bool.{◌&&◌}
use Prim.Native.Nat.{◌+◌, ◌*◌, ◌≤◌}
use lib.ListN.{take, drop}
use Rattle.laws.specs.Lists.{every, total}
use Rattle.seats.specs.Seats.{seat_ok}
use Rattle.classbook.specs.Book.{beyond}
use Rattle.classbook.proofs.walk.check.Given as goal

abbrev pub invariant-loop-s : goal.invariant-loop-s
invariant-loop-s l =
    ((l.t.ok && every seat_ok (drop l.s-index (take 16 l.b.seats))) ≡ every seat_ok l.b.seats)
    × (l.t.used ≤ 30 * l.s-index) × (l.t.used + total beyond (drop l.s-index (take 16 l.b.seats)) ≡ total beyond l.b.seats)

-- `slots::hits` meets its contract: its tests are those of the definition.
-- Assumes nothing.
use mathlib.Core.Path.{◌≡◌}
use mathlib.Core.Bool.{Bool, not, xor, ◌&&◌, ◌||◌}
use Prim.Native.Nat.{ℕ}
use lib.Bits.{bit_and}
use lib.Dec.{eqb}
use Rattle.bookings.specs.declared.Booking.{Booking}
use Rattle.slots.specs.declared.Slot.{Slot}
use Rattle.slots.specs.Inside.{mask, turns_from, hits_with}
use Rattle.slots.proofs.hits.Goals as goal

as-defined : (s : Slot) (x : Booking) (m : ℕ) (over turn : Bool) → m ≡ mask x → over ≡ not (eqb (bit_and s.leaves m) 0) → turn ≡ turns_from s.way x.direction
    → (over || (turn || (not (eqb s.count 0) && xor s.second (eqb x.burst 2)))) ≡ hits_with s x
unfolding hits_with
as-defined s x m over turn em eo et = rw (eo, em, et)

pub returns : goal.returns
unfolding xor
returns c =
    as-defined _ _ _ _ _ c.mask_of.ensures c.shares-over.ensures c.turns_from-turn.ensures

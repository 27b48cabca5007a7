-- What the functions of this crate promise: a timeslot's summary with one booking more, and a booking's test against it, by masks. That they are what the bookings say,
-- and document 01's clash, are laws (proofs/OneMore.antt, proofs/ByMasks.antt). No reader of a public promise has to believe it. Assumes nothing.
use Rattle.std.specs.Prelude.{Bool, false, cond, not, ◌&&◌, ◌||◌, ℕ, ◌+◌, eqb, Option, Some, None}
use Rattle.std.specs.Bool.{xor}
use Rattle.std.specs.Int.Bits.{bit_and, bit_or}
use Rattle.conditions.specs.declared.Direction.{Direction}
use Rattle.conditions.specs.declared.Direction.TheVariants.{Up, Down}
use Rattle.conditions.specs.Conditions.{is_down}
use Rattle.leaves.specs.Leaves.{covers, pattern}
use Rattle.bookings.specs.declared.Booking.{Booking}
use Rattle.slots.specs.declared.Slot.{Slot}

-- where there is no booking
unfoldable pub no_slot : Slot
no_slot = record { leaves = 0; way = None; count = 0; second = false }

-- a code's pattern
abbrev pub mask : Booking → ℕ
mask x = pattern (covers x.factor x.index)

-- down where it was, or where the booking is
unfoldable pub way_with : Option Direction → Direction → Option Direction
way_with None d = cond (is_down d) (Some Down) (Some Up)
way_with (Some Up) d = cond (is_down d) (Some Down) (Some Up)
way_with (Some Down) d = Some Down

-- with one booking more
unfoldable pub joined_with : Slot → Booking → Slot
joined_with s x = record { leaves = bit_or s.leaves (mask x); way = way_with s.way x.direction; count = s.count + 1; second = s.second || eqb x.burst 2 }

-- the direction of the bookings there is another
unfoldable pub turns_from : Option Direction → Direction → Bool
turns_from None d = false
turns_from (Some Up) d = is_down d
turns_from (Some Down) d = not (is_down d)

-- a booking's test against its timeslot: a leaf is taken, the direction is another, or exactly one kind is type 2
unfoldable pub hits_with : Slot → Booking → Bool
hits_with s x = not (eqb (bit_and s.leaves (mask x)) 0) || (turns_from s.way x.direction || (not (eqb s.count 0) && xor s.second (eqb x.burst 2)))

-- Document 02, C-16, "Free codes at a glance": what the bookings of a seat say of each timeslot. Over the bookings and their leaves; how it is kept and updated is not
-- said here. Cited by the crates seats, classbook and summaries. Assumes nothing.
use Rattle.std.specs.Prelude.{Bool, cond, not, ◌&&◌, List, [], ◌∷◌, map, ℕ, eqb, Option, Some, None}
use Rattle.std.specs.Bool.{xor}
use Rattle.laws.specs.Lists.{one, some, total}
use Rattle.conditions.specs.declared.Direction.{Direction}
use Rattle.conditions.specs.declared.Direction.TheVariants.{Up, Down}
use Rattle.conditions.specs.Conditions.{is_down}
use Rattle.leaves.specs.Leaves.{covers, pattern}
use Rattle.bookings.specs.declared.Booking.{Booking}
use Rattle.slots.specs.declared.Slot.{Slot}

-- a booking of timeslot t
abbrev pub is_in : ℕ → Booking → Bool
is_in t x = eqb x.timeslot t

-- "set where a booking covers it": leaf i of timeslot t
unfoldable pub covered_in : ℕ → List Booking → ℕ → Bool
covered_in t l i = some (λ x. is_in t x && covers x.factor x.index i) l

-- "the direction, or that there is none": bookings of one timeslot do not differ in it
unfoldable pub way_in : ℕ → List Booking → Option Direction
way_in t l = cond (some (λ x. is_in t x && is_down x.direction) l) (Some Down) (cond (some (is_in t) l) (Some Up) None)

-- "the number of bookings"
unfoldable pub count_in : ℕ → List Booking → ℕ
count_in t l = total (λ x. one (is_in t x)) l

-- kept beside it: whether its bookings are type 2, which do not mix with others
unfoldable pub type_two_in : ℕ → List Booking → Bool
type_two_in t l = some (λ x. is_in t x && eqb x.burst 2) l

-- all of it, of one timeslot
unfoldable pub slot_of : ℕ → List Booking → Slot
slot_of t l = record { leaves = pattern (covered_in t l); way = way_in t l; count = count_in t l; second = type_two_in t l }

-- the timeslots
abbrev pub the_timeslots : List ℕ
the_timeslots = 0 ∷ 1 ∷ 2 ∷ 3 ∷ 4 ∷ 5 ∷ 6 ∷ 7 ∷ 8 ∷ 9 ∷ 10 ∷ 11 ∷ 12 ∷ 13 ∷ 14 ∷ []

-- and of each of them
unfoldable pub summary_of : List Booking → List Slot
summary_of l = map (λ t. slot_of t l) the_timeslots

-- ---- when two are the same
-- the three ways by number: 0 up, 1 down, 2 neither
unfoldable pub way_number : Option Direction → ℕ
way_number (Some Up) = 0
way_number (Some Down) = 1
way_number None = 2

unfoldable pub same_slot : Slot → Slot → Bool
same_slot a b = eqb a.leaves b.leaves && (eqb (way_number a.way) (way_number b.way) && (eqb a.count b.count && not (xor a.second b.second)))

-- Document 01, "The class book" and "Beacon timeslots": what one booking must meet, what it covers, and when two of a seat clash; of their types document 02.
-- Cited by the crates slots, seats and classbook. Assumes nothing.
use Rattle.std.specs.Prelude.{Bool, not, ◌&&◌, ◌||◌, [], ◌∷◌, ℕ, ◌+◌, ◌*◌, eqb, ltb}
use Rattle.std.specs.Bool.{xor}
use Rattle.conditions.specs.Conditions.{is_down}
use Rattle.tables.specs.Tables.{form_refusals}
use Rattle.refusals.specs.Refusals.{Refusals, first_of}
use Rattle.leaves.specs.Leaves.{leaves_of, first_leaf}
use Rattle.conditions.specs.declared.Direction.{Direction}
use Rattle.conditions.specs.declared.Direction.TheVariants.{Up, Down}
use Rattle.bookings.specs.declared.Booking.{Booking}

-- "every booking passes 2 and 4 to 8": the first of these refusals that its own numbers get, or 0
unfoldable pub form_of : Booking → ℕ
form_of x = first_of (form_refusals x.timeslot x.direction x.burst x.factor x.index x.user x.tfci x.tpc)

-- the first leaf of a booking's code
abbrev pub leaf : Booking → ℕ
leaf x = first_leaf x.factor x.index

-- "overlap is a shared leaf": neither code's leaves end before the other's begin
unfoldable pub overlaps : Booking → Booking → Bool
overlaps x y = ltb (leaf x) (leaf y + leaves_of y.factor) && ltb (leaf y) (leaf x + leaves_of x.factor)

-- the directions are the same
unfoldable pub same_direction : Direction → Direction → Bool
same_direction Up d = not (is_down d)
same_direction Down d = is_down d

-- document 02: "of two bookings in a timeslot, the types clash if exactly one of them is type 2"
unfoldable pub mixed : ℕ → ℕ → Bool
mixed t u = xor (eqb t 2) (eqb u 2)

-- "Two bookings of one seat clash if their timeslots are equal and their directions differ, or their burst types" clash, "or their codes overlap."
unfoldable pub clash : Booking → Booking → Bool
clash x y =
    eqb x.timeslot y.timeslot
    && (not (same_direction x.direction y.direction) || (mixed x.burst y.burst || overlaps x y))

-- the order of a list: "by timeslot, then by first leaf", of which there are 16
abbrev pub key : Booking → ℕ
key x = x.timeslot * 16 + leaf x

-- x comes before y in a list
unfoldable pub comes : Booking → Booking → Bool
comes x y = ltb (key x) (key y)

-- x may stand before y in a plan: it comes before it in list order, and they do not clash
unfoldable pub fine : Booking → Booking → Bool
fine x y = comes x y && not (clash x y)

-- code (Q, k)
abbrev pub is_code : ℕ → ℕ → Booking → Bool
is_code Q k x = eqb x.factor Q && eqb x.index k

-- the beacon rules "in this order", each with whether it is broken: (a) only downlink type 1 is booked; (b) code (16, 1) takes user 1; (c) user 1 goes to no
-- other code; (d) user 2 is not booked; (e) users 9 and 10 are left unused; (f) code (1, 1) is refused, since it covers (16, 1)
unfoldable pub beacon_rules : Booking → Refusals
beacon_rules x =
    (1, not (is_down x.direction) || not (eqb x.burst 1)) ∷
    (2, is_code 16 1 x && not (eqb x.user 1)) ∷
    (3, eqb x.user 1 && not (is_code 16 1 x)) ∷
    (4, eqb x.user 2) ∷
    (5, eqb x.user 9 || eqb x.user 10) ∷
    (6, is_code 1 1 x) ∷ []

-- 18: one of them is broken
unfoldable pub breaks_beacon : Booking → Bool
breaks_beacon x = not (eqb (first_of (beacon_rules x)) 0)

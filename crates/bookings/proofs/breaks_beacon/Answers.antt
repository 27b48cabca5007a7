-- `bookings::breaks_beacon` meets its contract: a rule is broken exactly where one of the six tests holds.
-- Assumes nothing.
use mathlib.Core.Path.{◌≡◌, refl}
use mathlib.Core.Bool.{Bool, true, false, not, ◌&&◌, ◌||◌}
use mathlib.Core.List.{[], ◌∷◌}
use lib.Dec.{eqb}
use Rattle.refusals.specs.Refusals.{first_of}
use Rattle.conditions.specs.Conditions.{is_down}
use Rattle.bookings.specs.declared.Booking.{Booking}
use Rattle.bookings.specs.Bookings.{is_code, breaks_beacon, beacon_rules}
use Rattle.bookings.proofs.breaks_beacon.Goals as goal

one-of-six : (a b c d e f : Bool) → (a || ((b || c) || ((d || e) || f))) ≡ not (eqb (first_of ((1, a) ∷ (2, b) ∷ (3, c) ∷ (4, d) ∷ (5, e) ∷ (6, f) ∷ [])) 0)
unfolding first_of
one-of-six true b c d e f = refl
one-of-six false true c d e f = refl
one-of-six false false true d e f = refl
one-of-six false false false true e f = refl
one-of-six false false false false true f = refl
one-of-six false false false false false true = refl
one-of-six false false false false false false = refl

-- what the tests gave, rule by rule
as-defined : (x : Booking) (down a b d : Bool) → down ≡ is_down x.direction → a ≡ (not down || not (eqb x.burst 1))
    → b ≡ ((is_code 16 1 x && not (eqb x.user 1)) || (eqb x.user 1 && not (is_code 16 1 x))) → d ≡ (eqb x.user 2 || (eqb x.user 9 || eqb x.user 10))
    → (a || (b || (d || is_code 1 1 x))) ≡ breaks_beacon x
unfolding breaks_beacon beacon_rules
as-defined x down a b d ed ea eb eu = rw (ea, eb, eu, ed) (one-of-six _ _ _ _ _ _)

pub returns : goal.returns
returns c =
    as-defined _ _ _ _ _ c.is_down.ensures c.off_type-a.ensures c.off_first-b.ensures c.off_user-d.ensures

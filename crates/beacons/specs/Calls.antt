-- What the call `beacon` answers, for all inputs: its table of refusals, what its value says, and its whole answer. Cited by its promise.
-- Assumes nothing.
use Rattle.std.specs.Prelude.{List, [], ◌∷◌, ℕ}
use Rattle.refusals.specs.Refusals.{Answer, Refusals, first_of, answer}
use Rattle.beacons.specs.declared.Beacons.{Beacons}
use Rattle.beacons.specs.declared.Beacons.TheVariants.{One, Two}
use Rattle.conditions.specs.Conditions.{bad_beacon}
use Rattle.beacons.specs.Beacons.{beacons_of}

-- "beacon timeslots 9"
unfoldable pub beacon_refusals : ℕ → ℕ → Refusals
beacon_refusals case k = (9, bad_beacon case k) ∷ []

-- the timeslots in order
abbrev pub said_beacons : Beacons → List ℕ
said_beacons (One t) = t ∷ []
said_beacons (Two t u) = t ∷ u ∷ []

unfoldable pub beacon_answer : ℕ → ℕ → Answer (List ℕ)
beacon_answer case k = answer (first_of (beacon_refusals case k)) (beacons_of case k)

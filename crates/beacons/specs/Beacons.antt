-- Document 01, "Beacon timeslots (clauses 5.3.4, 5.5)": which timeslots are beacon timeslots. Cited by the promises of `beacons`, and by the class book.
-- Assumes nothing.
use Rattle.std.specs.Prelude.{Bool, cond, List, [], ◌∷◌, ℕ, ◌+◌, eqb}
use Rattle.laws.specs.Lists.{member}

-- "Case 1: timeslot k. Case 2: timeslots k and k + 8." No other case has any.
unfoldable pub beacons_of : ℕ → ℕ → List ℕ
beacons_of case k = cond (eqb case 1) (k ∷ []) (cond (eqb case 2) (k ∷ (k + 8) ∷ []) [])

-- whether t is one of them
unfoldable pub is_beacon : ℕ → ℕ → ℕ → Bool
is_beacon case k t = member t (beacons_of case k)

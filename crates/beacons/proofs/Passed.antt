-- A beacon timeslot of a case and k that condition 9 leaves is a timeslot. No proof needs it.
-- Assumes nothing.
use Rattle.std.proofs.Common.{◌≡◌, ℕ, ◌≤◌, true, false, arith}
use Rattle.std.proofs.lemmas.Bool.Decides.{nat_tests}
use Rattle.laws.specs.Lists.{member}
use Rattle.conditions.specs.Conditions.{bad_beacon}
use Rattle.beacons.specs.Beacons.{beacons_of, is_beacon}

pub is_beacon_within : (case k t : ℕ) → bad_beacon case k ≡ false → is_beacon case k t ≡ true → t ≤ 14
unfolding bad_beacon is_beacon member beacons_of
is_beacon_within case k t e b = grind (arith, nat_tests)

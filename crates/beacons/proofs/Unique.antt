-- No second reply satisfies a promise, and no promise asks anything: `Post` and `Pre` are what rattle reads of each call's contract.
-- Assumes nothing.
use mathlib.Core.Path.{◌≡◌, sym, ◌∙◌}
use Rattle.std.specs.Prelude.{Result}
use Rattle.refusals.specs.declared.Refusal.{Refusal}
use Rattle.refusals.specs.Refusals.{said_as}
use Rattle.refusals.proofs.Numbers.{said_as_once}
use Rattle.beacons.specs.declared.Beacons.{Beacons}
use Rattle.beacons.specs.declared.Beacons.TheVariants.{One, Two}
use Rattle.beacons.specs.Calls.{said_beacons}
use Rattle.beacons.proofs.is_beacon.Reads as is-beacon
use Rattle.beacons.proofs.beacon.Reads as beacon

-- beacons that list the same timeslots are the same
said_beacons_once : (v w : Beacons) → said_beacons v ≡ said_beacons w → v ≡ w
said_beacons_once (One t) (One t') e = cc
said_beacons_once (One t) (Two t' u') e = cc
said_beacons_once (Two t u) (One t') e = cc
said_beacons_once (Two t u) (Two t' u') e = cc

-- and so are two results that say the same
pub said_beacon_once : (r r' : Result Beacons Refusal) → said_as said_beacons r ≡ said_as said_beacons r' → r ≡ r'
said_beacon_once r r' e = said_as_once said_beacons said_beacons_once r r' e

pub beacon_asks_nothing : (κs : _) (a : _) → beacon.Pre κs a
beacon_asks_nothing κs a = tt

pub beacon_unique : (κs : _) (a : _) (r r' : _) (s s' : _) → beacon.Post κs a r s → beacon.Post κs a r' s' → r ≡ r'
beacon_unique κs a r r' s s' p q = said_beacon_once r r' (p ∙ sym q)

pub is_beacon_asks_nothing : (κs : _) (a : _) → is-beacon.Pre κs a
is_beacon_asks_nothing κs a = tt

pub is_beacon_unique : (κs : _) (a : _) (r r' : _) (s s' : _) → is-beacon.Post κs a r s → is-beacon.Post κs a r' s' → r ≡ r'
is_beacon_unique κs a r r' s s' p q = p ∙ sym q

-- How the answers about timeslots are written over C. Cited by the promises of mq_parts, mq_at and mq_beacon.
-- Assumes nothing.
use Rattle.std.specs.Prelude.{cond, List, [], ◌∷◌, map, ℕ, ◌-◌, eqb, length, take, get_or, replicate}
use Rattle.refusals.specs.Refusals.{Answer, refused, answered}
use Rattle.timeslots.specs.Timeslots.{Part, DATA1, TFCI1, MIDAMBLE, TPC, TFCI2, DATA2, GUARD, order, SevenParts}
use Rattle.mqarbset_answers.specs.declared.parts.MqParts.{MqParts}
use Rattle.mqarbset_answers.specs.declared.parts.MqPlace.{MqPlace}
use Rattle.mqarbset_answers.specs.declared.parts.MqBeacons.{MqBeacons}

-- the first chips, the lengths and the bits; refused, all are 0
unfoldable pub parts_as_c : Answer SevenParts → MqParts
parts_as_c (refused n) = record { refusal = n; start = replicate 7 0; length = replicate 7 0; bits = replicate 2 0 }
parts_as_c (answered p) =
    record {
      refusal = 0;
      start = map (λ (s : ℕ × ℕ). s.0) p.0;
      length = map (λ (s : ℕ × ℕ). s.1) p.0;
      bits = p.1.0 ∷ p.1.1 ∷ [];
    }

-- the parts by their place in time order, from 1
unfoldable pub part_number : Part → ℕ
part_number DATA1 = 1
part_number TFCI1 = 2
part_number MIDAMBLE = 3
part_number TPC = 4
part_number TFCI2 = 5
part_number DATA2 = 6
part_number GUARD = 7

unfoldable pub place_as_c : Answer (Part × ℕ) → MqPlace
place_as_c (refused n) = record { refusal = n; part = 0; number = 0 }
place_as_c (answered a) = record { refusal = 0; part = part_number a.0; number = a.1 }

-- how many, and which; what is not there is 0
unfoldable pub beacons_as_c : Answer (List ℕ) → MqBeacons
beacons_as_c (refused n) = record { refusal = n; count = 0; first = 0; second = 0 }
beacons_as_c (answered l) = record { refusal = 0; count = length l; first = get_or l 0 0; second = get_or l 1 0 }

-- ---- what a C caller reads: 0 is nobody's refusal number

unfoldable pub zipped : List ℕ → List ℕ → List (ℕ × ℕ)
zipped [] ms = []
zipped (n ∷ ns) [] = []
zipped (n ∷ ns) (m ∷ ms) = (n, m) ∷ zipped ns ms

unfoldable pub parts_in_c : MqParts → Answer SevenParts
parts_in_c r = cond (eqb r.refusal 0) (answered (zipped r.start r.length, (get_or r.bits 0 0, get_or r.bits 1 0))) (refused r.refusal)

unfoldable pub place_in_c : MqPlace → Answer (Part × ℕ)
place_in_c r = cond (eqb r.refusal 0) (answered (get_or order (r.part - 1) GUARD, r.number)) (refused r.refusal)

unfoldable pub beacons_in_c : MqBeacons → Answer (List ℕ)
beacons_in_c r = cond (eqb r.refusal 0) (answered (take r.count (r.first ∷ r.second ∷ []))) (refused r.refusal)

-- A request that is not refused, the seven lengths as the code hands them on, and the second half of its walk. No reader of a public promise has to believe it.
-- Cited by the promises of `Request` and `Lengths`. Assumes nothing.
use Rattle.std.specs.Prelude.{◌≡◌, cond, ℕ, ◌-◌, ◌/◌, ltb}
use Rattle.conditions.specs.declared.Direction.{Direction}
use Rattle.timeslots.specs.declared.lengths.Lengths.{Lengths}
use Rattle.timeslots.specs.declared.request.Request.{Request}
use Rattle.timeslots.specs.Timeslots.{Part, DATA1, TFCI1, MIDAMBLE, TPC, TFCI2, DATA2, GUARD, part_length}

-- a request of these numbers
pub record IsRequestOf (burst : ℕ) (direction : Direction) (factor tfci tpc : ℕ) (r : Request) : Type 0 where
  pub burst_is : r.burst ≡ burst
  pub direction_is : r.direction ≡ direction
  pub factor_is : r.factor ≡ factor
  pub tfci_is : r.tfci ≡ tfci
  pub tpc_is : r.tpc ≡ tpc

-- each part's length under its name
unfoldable pub lengths_of : ℕ → Direction → ℕ → ℕ → ℕ → Lengths
lengths_of burst direction factor tfci tpc =
    record {
      data1 = part_length burst direction factor tfci tpc DATA1;
      tfci1 = part_length burst direction factor tfci tpc TFCI1;
      midamble = part_length burst direction factor tfci tpc MIDAMBLE;
      tpc = part_length burst direction factor tfci tpc TPC;
      tfci2 = part_length burst direction factor tfci tpc TFCI2;
      data2 = part_length burst direction factor tfci tpc DATA2;
      guard = part_length burst direction factor tfci tpc GUARD;
    }

-- what lies so many chips behind the midamble's end, from the lengths of the parts there and the chips of a symbol
unfoldable pub behind_midamble : ℕ → ℕ → ℕ → ℕ → ℕ → ℕ → Part × ℕ
behind_midamble left power tfci2 data2 factor control =
    cond (ltb left power) (TPC, left / control)
    (cond (ltb (left - power) tfci2) (TFCI2, (left - power) / control)
    (cond (ltb (left - power - tfci2) data2) (DATA2, (left - power - tfci2) / factor) (GUARD, left - power - tfci2 - data2)))

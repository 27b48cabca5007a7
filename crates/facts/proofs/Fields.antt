-- Document 01, "Parts of a timeslot": "Control eats into the data field beside it", so that data
-- and the control beside it add up to the table's field, in every answer of `parts`. No function's
-- proof cites it: it is for the reader. Assumes nothing.
use mathlib.Core.Path.{◌≡◌, refl, sym, ap, ◌∙◌}
use mathlib.Core.List.{List}
use Prim.Native.Nat.{ℕ, ◌+◌}
use native.Mathlib.Omega.{arith}
use lib.ListN.{get_or}
use Rattle.refusals.specs.Refusals.{answered}
use Rattle.conditions.specs.declared.Direction.{Direction}
use Rattle.timeslots.specs.Timeslots.{Part, DATA1, TFCI1, MIDAMBLE, TPC, TFCI2, DATA2, GUARD}
use Rattle.timeslots.specs.Timeslots.{field_length, order, spans, part_length, part_lengths}
use Rattle.timeslots.specs.Timeslots.{SevenParts, seven_parts}
use Rattle.timeslots.specs.Calls.{parts_answer}
use Rattle.timeslots.proofs.Sizes.{half_high, power_high, table}
use Rattle.timeslots.proofs.Answers.{parts_given}
use Rattle.there_and_back.proofs.Agree.{place}

-- the length in chips that an answer's spans have for a part
abbrev pub chips_in : List (ℕ × ℕ) → Part → ℕ
chips_in s x = (get_or s (place x) (0, 0)).1

-- the four fields of a burst type's line, filled by the seven parts
pub record Filled (burst : ℕ) (s : List (ℕ × ℕ)) : Type 0 where
  pub before_midamble : chips_in s DATA1 + chips_in s TFCI1 ≡ field_length burst 0
  pub midamble : chips_in s MIDAMBLE ≡ field_length burst 1
  pub behind_midamble : chips_in s TPC + chips_in s TFCI2 + chips_in s DATA2 ≡ field_length burst 2
  pub guard : chips_in s GUARD ≡ field_length burst 3
  pub timeslot : field_length burst 0 + field_length burst 1 + field_length burst 2
      + field_length burst 3 ≡ 2560

module _ (burst : ℕ) (direction : Direction) (factor tfci tpc : ℕ) (s : List (ℕ × ℕ)) (bits : ℕ × ℕ)
    (given : parts_answer burst direction factor tfci tpc ≡ answered (s, bits)) where
  abbrev long : Part → ℕ
  long x = part_length burst direction factor tfci tpc x

  length_given : (x : Part) → chips_in s x ≡ long x
  unfolding place seven_parts part_lengths order spans
  length_given x =
      let told = (parts_given burst direction factor tfci tpc (s, bits) given).1 in
      ap (λ (t : SevenParts). chips_in t.0 x) (sym told) ∙ by x
    where
      by : (y : Part) → chips_in (seven_parts burst direction factor tfci tpc).0 y ≡ long y
      by DATA1 = refl
      by TFCI1 = refl
      by MIDAMBLE = refl
      by TPC = refl
      by TFCI2 = refl
      by DATA2 = refl
      by GUARD = refl

  pub fields_filled : Filled burst s
  unfolding part_length
  fields_filled =
      let passed = (parts_given burst direction factor tfci tpc (s, bits) given).0 in
      let row = table burst direction factor tfci tpc passed in
      let half = half_high burst direction factor tfci tpc passed in
      let power = power_high burst direction factor tfci tpc passed in
      let data1 = length_given DATA1 in
      let tfci1 = length_given TFCI1 in
      let power-part = length_given TPC in
      let tfci2 = length_given TFCI2 in
      let data2 = length_given DATA2 in
      record {
        before_midamble = omega (arith, data1, tfci1, row.high1, half);
        midamble = length_given MIDAMBLE;
        behind_midamble = omega (arith, power-part, tfci2, data2, row.high2, half, power);
        guard = length_given GUARD;
        timeslot = row.total;
      }

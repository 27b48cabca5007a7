-- The seven lengths of a request that is not refused: control fits beside the data, all seven make 2,560 chips, and each part is a whole
-- number of what is counted in it. Once over the numbers. Cited by the proofs of `Request`, and by the crates there_and_back and facts. Assumes nothing.
use mathlib.Core.Path.{◌≡◌, subst}
use Prim.Native.Nat.{ℕ, ◌+◌, ◌-◌, ◌/◌, ◌%◌, ◌≤◌, ◌∣◌}
use native.Mathlib.Nat.{mul-le-mul, le_of_dvd, pos_of_dvd_of_pos, dvd_trans, dvd-mul_left, dvd-mul_left_of_dvd, dvd-add, dvd-add_iff_right, dvd_of_mod-eq-zero, one-dvd}
use native.Mathlib.Omega.{arith}
use lib.Dec.{lit<, lit≤}
use Rattle.refusals.specs.Refusals.{first_of}
use Rattle.conditions.specs.declared.Direction.{Direction}
use Rattle.timeslots.specs.Timeslots.{Part, DATA1, TFCI1, MIDAMBLE, TPC, TFCI2, DATA2, GUARD, control_chips, chips_of_bits, tfci_half, tpc_chips, part_length, unit}
use Rattle.tables.specs.Tables.{parts_refusals}
use Rattle.timeslots.proofs.Accepted.{Accepted, accepted, factor_control, control_sixteen, Row, row}

-- what is left of a whole number of runs when a whole number of them is taken
rest_whole : (d h a : ℕ) → h ≤ a → d ∣ h → d ∣ a → d ∣ a - h
rest_whole d h a le dh da =
    let e : a ≡ h + (a - h) = omega arith in
    (dvd-add_iff_right d dh).1 (subst (λ (x : ℕ). d ∣ x) e da)

module _ (burst : ℕ) (direction : Direction) (factor tfci tpc : ℕ) (e : first_of (parts_refusals burst direction factor tfci tpc) ≡ 0) where
  pub request : Accepted burst factor tfci tpc
  request = accepted burst direction factor tfci tpc e

  pub table : Row burst
  table = row burst request.burst_low request.burst_high

  factor_sixteen : factor ∣ 16
  factor_sixteen = dvd_of_mod-eq-zero factor request.factor_whole

  control_whole : control_chips direction factor ∣ 16
  control_whole = control_sixteen direction factor factor_sixteen

  pub control_low : 1 ≤ control_chips direction factor
  control_low = pos_of_dvd_of_pos control_whole (lit< tt)

  pub half_high : tfci_half direction factor tfci ≤ 128
  unfolding tfci_half chips_of_bits
  half_high = let t : tfci / 2 / 2 ≤ 8 = omega (arith, request.tfci_high) in mul-le-mul t (le_of_dvd (lit< tt) control_whole)

  pub power_high : tpc_chips direction factor tpc ≤ 16
  unfolding tpc_chips chips_of_bits
  power_high = let t : tpc / 2 ≤ 1 = omega (arith, request.tpc_high) in mul-le-mul t (le_of_dvd (lit< tt) control_whole)

  abbrev long : Part → ℕ
  long x = part_length burst direction factor tfci tpc x

  -- "The parts cover chips 0 to 2559": all seven make 2,560 chips
  pub lengths_total : long DATA1 + long TFCI1 + long MIDAMBLE + long TPC + long TFCI2 + long DATA2 + long GUARD ≡ 2560
  unfolding part_length
  lengths_total = omega (arith, table.total, table.high1, table.high2, half_high, power_high)

  control_runs : (bits : ℕ) → factor ∣ chips_of_bits bits (control_chips direction factor)
  unfolding chips_of_bits
  control_runs bits = dvd-mul_left_of_dvd factor (factor_control direction factor factor_sixteen) (bits / 2)

  control_symbols : (bits : ℕ) → control_chips direction factor ∣ chips_of_bits bits (control_chips direction factor)
  unfolding chips_of_bits
  control_symbols bits = dvd-mul_left (control_chips direction factor) (bits / 2)

  both : factor ∣ chips_of_bits tpc (control_chips direction factor) + chips_of_bits (tfci / 2) (control_chips direction factor)
  both = dvd-add factor (control_runs tpc) (control_runs (tfci / 2))

  data_runs : (a : ℕ) → a % 16 ≡ 0 → factor ∣ a
  data_runs a w = dvd_trans factor factor_sixteen (dvd_of_mod-eq-zero 16 w)

  -- every symbol has its number of chips: a part's length divides by what is counted in it, which is some chips long
  pub whole : (x : Part) → (1 ≤ unit direction factor x) × (unit direction factor x ∣ long x)
  unfolding unit part_length tfci_half tpc_chips
  whole DATA1 = (request.factor_low, rest_whole factor _ _ (omega (arith, half_high, table.high1)) (control_runs (tfci / 2)) (data_runs _ table.whole1))
  whole TFCI1 = (control_low, control_symbols (tfci / 2))
  whole MIDAMBLE = (lit≤ tt, one-dvd _)
  whole TPC = (control_low, control_symbols tpc)
  whole TFCI2 = (control_low, control_symbols (tfci / 2))
  whole DATA2 = (request.factor_low, rest_whole factor _ _ (omega (arith, half_high, power_high, table.high2)) both (data_runs _ table.whole2))
  whole GUARD = (lit≤ tt, one-dvd _)

-- What a request that is not refused is known by: the numbers it may hold, and what the table's rows have in common.
-- Cited by proofs/Sizes.antt. Assumes nothing.
use mathlib.Core.Path.{◌≡◌, refl}
use mathlib.Core.Bool.{Bool, true, ◌&&◌}
use mathlib.Core.List.{List, [], ◌∷◌}
use Prim.Native.Nat.{ℕ, zero, suc, ◌+◌, ◌-◌, ◌%◌, ◌<◌, ◌≤◌, ◌∣◌}
use native.Mathlib.Nat.{dvd_refl}
use native.Mathlib.Omega.{arith}
use lib.Dec.{eqb, leb, lit≤}
use lib.ListN.{get_or}
use borrow.Author.Tests.{ltb-false, leb-true, eqb-true, not-false}
use Rattle.laws.proofs.Bools.{and_true, or_false}
use Rattle.laws.proofs.Cases.{one_of}
use Rattle.conditions.specs.Conditions.{bad_type, bad_factor, bad_control}
use Rattle.tables.specs.Tables.{parts_refusals}
use Rattle.refusals.specs.Refusals.{first_of}
use Rattle.refusals.proofs.First.{first_none}
use Rattle.conditions.specs.declared.Direction.{Direction}
use Rattle.conditions.specs.declared.Direction.TheVariants.{Up, Down}
use Rattle.timeslots.specs.Timeslots.{fields, field_length, control_chips}

pub record Accepted (burst factor tfci tpc : ℕ) : Type 0 where
  pub burst_low : 1 ≤ burst
  pub burst_high : burst ≤ 3
  pub factor_low : 1 ≤ factor
  pub factor_whole : 16 % factor ≡ 0
  pub tfci_high : tfci ≤ 32
  pub tpc_high : tpc ≤ 2

pub accepted : (burst : ℕ) (direction : Direction) (factor tfci tpc : ℕ) → first_of (parts_refusals burst direction factor tfci tpc) ≡ 0
    → Accepted burst factor tfci tpc
unfolding parts_refusals bad_type bad_factor bad_control
accepted burst direction factor tfci tpc e =
    let two = first_none 1 _ _ e in
    let six = first_none 5 _ _ two.1 in
    let seven = first_none 6 _ _ six.1 in
    let eight = first_none 7 _ _ seven.1 in
    let type = or_false _ _ two.0 in
    let control = or_false _ _ (or_false _ _ eight.0).0 in
    let good = one_of (λ (f : ℕ). (1 ≤ f) × (16 % f ≡ 0)) factor 1 (2 ∷ 4 ∷ 8 ∷ 16 ∷ [])
    ((lit≤ tt, refl), ((lit≤ tt, refl), ((lit≤ tt, refl), ((lit≤ tt, refl), ((lit≤ tt, refl), tt))))) (not-false _ (or_false _ _ six.0).0) in
    record {
      burst_low = ltb-false burst 1 type.0;
      burst_high = ltb-false 3 burst type.1;
      factor_low = good.0;
      factor_whole = good.1;
      tfci_high = one_of (λ (t : ℕ). t ≤ 32) tfci 0 (4 ∷ 8 ∷ 16 ∷ 32 ∷ []) (lit≤ tt, (lit≤ tt, (lit≤ tt, (lit≤ tt, (lit≤ tt, tt))))) (not-false _ control.0);
      tpc_high = one_of (λ (t : ℕ). t ≤ 2) tpc 0 (2 ∷ []) (lit≤ tt, (lit≤ tt, tt)) (not-false _ control.1);
    }

-- a control symbol is a whole number of data symbols long, and 16 chips a whole number of control symbols
pub factor_control : (direction : Direction) (factor : ℕ) → factor ∣ 16 → factor ∣ control_chips direction factor
unfolding control_chips
factor_control Up factor d = d
factor_control Down factor d = dvd_refl factor

pub control_sixteen : (direction : Direction) (factor : ℕ) → factor ∣ 16 → control_chips direction factor ∣ 16
unfolding control_chips
control_sixteen Up factor d = dvd_refl 16
control_sixteen Down factor d = d

-- what every row of the table has: 2,560 chips in all, data fields of whole runs of 16 chips, longer than any control beside them
good : List ℕ → Bool
good r =
    eqb (get_or r 0 0 + get_or r 1 0 + get_or r 2 0 + get_or r 3 0) 2560
    && eqb (get_or r 0 0 % 16) 0
    && eqb (get_or r 2 0 % 16) 0
    && leb 144 (get_or r 0 0)
    && leb 144 (get_or r 2 0)

rows_good : (i : ℕ) → i < 3 → good (get_or fields i []) ≡ true
unfolding fields good
rows_good zero h = refl
rows_good (suc zero) h = refl
rows_good (suc (suc zero)) h = refl
rows_good (suc (suc (suc i))) h = absurd (omega arith)

pub record Row (burst : ℕ) : Type 0 where
  pub total : field_length burst 0 + field_length burst 1 + field_length burst 2 + field_length burst 3 ≡ 2560
  pub whole1 : field_length burst 0 % 16 ≡ 0
  pub whole2 : field_length burst 2 % 16 ≡ 0
  pub high1 : 144 ≤ field_length burst 0
  pub high2 : 144 ≤ field_length burst 2

pub row : (burst : ℕ) → 1 ≤ burst → burst ≤ 3 → Row burst
unfolding good field_length
row burst low high =
    let four = and_true _ _ (rows_good (burst - 1) (omega arith)) in
    let three = and_true _ _ four.0 in
    let two = and_true _ _ three.0 in
    let one = and_true _ _ two.0 in
    record {
      total = eqb-true _ _ one.0;
      whole1 = eqb-true _ _ one.1;
      whole2 = eqb-true _ _ two.1;
      high1 = leb-true _ _ three.1;
      high2 = leb-true _ _ four.1;
    }

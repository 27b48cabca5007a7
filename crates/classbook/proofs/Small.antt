-- Numbers that were not refused are small, so that a byte holds each. Cited by the proofs of open_seat and book_code.
-- Assumes nothing.
use mathlib.Core.Path.{◌≡◌, refl}
use mathlib.Core.Logic.{⊎_elim}
use mathlib.Core.Bool.{Bool, true, false, cond, not, ◌&&◌, ◌||◌}
use mathlib.Core.List.{[], ◌∷◌}
use Prim.Native.Nat.{ℕ, ◌≤◌}
use native.Mathlib.Omega.{arith}
use lib.Dec.{eqb, ltb, lit≤}
use borrow.Author.Tests.{ltb-false, not-false}
use Rattle.laws.proofs.Bools.{or_false}
use Rattle.codes.specs.Codes.{code_of}
use Rattle.codes.proofs.Numbers.{small}
use Rattle.codes.proofs.Permitted.{setting}
use Rattle.conditions.specs.Conditions.{bad_type, is_down, bad_factor, bad_down_factor, bad_down_type, bad_control, bad_cell, bad_count, bad_beacon, bad_booked_user, bad_timeslot, bad_code}
use Rattle.conditions.proofs.Counts.{count_permits}
use Rattle.tables.specs.Tables.{form_refusals, settings_refusals}
use Rattle.refusals.specs.Refusals.{first_of}
use Rattle.refusals.proofs.First.{first_none}
use Rattle.laws.proofs.Cases.{either, one_of}
use Rattle.classbook.specs.declared.Request.{Request}
use Rattle.classbook.specs.Calls.{request_refusals}

-- a count that is not refused is at most 16: it permits somebody, and is then a setting of its code
count_high : (burst count : ℕ) → bad_count burst count ≡ false → count ≤ 16
count_high burst count e =
    let c = code_of burst in
    let high = (small c burst refl).base_high in
    ⊎_elim (λ all. omega (arith, all.0, high)) (⊎_elim (λ first. omega (arith, first.0, high)) (λ odd. omega (arith, odd.0, high)))
    (setting c count 1 (count_permits burst count e))

case_high : (case k : ℕ) → bad_beacon case k ≡ false → (case ≤ 2) × (k ≤ 14)
unfolding bad_beacon
case_high case k e =
    let a = or_false (not (eqb case 1 || eqb case 2) || (eqb case 1 && ltb 14 k)) (eqb case 2 && ltb 6 k) e in
    let b = or_false (not (eqb case 1 || eqb case 2)) (eqb case 1 && ltb 14 k) a.0 in
    let one-or-two = not-false (eqb case 1 || eqb case 2) b.0 in (
      one_of (λ q. q ≤ 2) case 1 (2 ∷ []) (lit≤ tt, (lit≤ tt, tt)) one-or-two,
      ⊎_elim (λ t. ltb-false 14 k (rest (eqb case 1) (ltb 14 k) t b.1)) (λ t. low (ltb-false 6 k (rest (eqb case 2) (ltb 6 k) t a.1))) (either (eqb case 1) (eqb case 2) one-or-two),
    )
  where
    rest : (p q : Bool) → p ≡ true → (p && q) ≡ false → q ≡ false
    rest p q t f = rw t at f

    low : k ≤ 6 → k ≤ 14
    low h = omega arith

pub record SettingsSmall (cell case k long short : ℕ) : Type 0 where
  pub cell_high : cell ≤ 127
  pub case_two : case ≤ 2
  pub k_high : k ≤ 14
  pub long_high : long ≤ 16
  pub short_high : short ≤ 16

pub settings_small : (cell case k long short : ℕ) → first_of (settings_refusals cell case k long short) ≡ 0 → SettingsSmall cell case k long short
unfolding settings_refusals bad_cell
settings_small cell case k long short e =
    let one = first_none 0 (bad_cell cell) _ e in
    let three = first_none 2 (bad_count 1 long || bad_count 2 short) _ one.1 in
    let nine = first_none 8 (bad_beacon case k) [] three.1 in
    let counts = or_false (bad_count 1 long) (bad_count 2 short) three.0 in
    let beacon = case_high case k nine.0 in
    record {
      cell_high = ltb-false 127 cell one.0;
      case_two = beacon.0;
      k_high = beacon.1;
      long_high = count_high 1 long counts.0;
      short_high = count_high 2 short counts.1;
    }

-- the user of a booking
user_high : (burst user : ℕ) → bad_booked_user burst user ≡ false → user ≤ 16
unfolding bad_booked_user
user_high burst user e = at_most (eqb burst 2) (ltb-false (cond (eqb burst 2) 6 16) user (or_false (ltb user 1) (ltb (cond (eqb burst 2) 6 16) user) e).1)
  where
    at_most : (b : Bool) → user ≤ cond b 6 16 → user ≤ 16
    at_most true h = omega arith
    at_most false h = h

pub record RequestSmall (x : Request) : Type 0 where
  pub timeslot_high : x.timeslot ≤ 255
  pub burst_high : x.burst ≤ 255
  pub factor_high : x.factor ≤ 255
  pub index_high : x.index ≤ 255
  pub user_in : x.user ≤ 255
  pub tfci_high : x.tfci ≤ 255
  pub tpc_high : x.tpc ≤ 255

pub request_small : (x : Request) → first_of (request_refusals x) ≡ 0 → RequestSmall x
unfolding request_refusals form_refusals bad_type bad_timeslot bad_code bad_factor bad_control
request_small x e =
    let two = first_none 1 (bad_type x.burst) _ e in
    let four = first_none 3 (bad_booked_user x.burst x.user) _ two.1 in
    let five = first_none 4 (bad_timeslot x.timeslot) _ four.1 in
    let six = first_none 5 (bad_code x.factor x.index || bad_down_factor x.direction x.factor) _ five.1 in
    let seven = first_none 6 (bad_down_type x.direction x.burst) _ six.1 in
    let eight = first_none 7 (bad_control x.direction x.tfci x.tpc) [] seven.1 in
    let code = or_false (bad_code x.factor x.index) (bad_down_factor x.direction x.factor) six.0 in
    let split = or_false (bad_factor x.factor) (ltb x.index 1 || ltb x.factor x.index) code.0 in
    let inside = or_false (ltb x.index 1) (ltb x.factor x.index) split.1 in
    let control = or_false (not (eqb x.tfci 0 || eqb x.tfci 4 || eqb x.tfci 8 || eqb x.tfci 16 || eqb x.tfci 32) || not (eqb x.tpc 0 || eqb x.tpc 2)) (is_down x.direction && eqb x.tpc 2) eight.0 in
    let bits = or_false (not (eqb x.tfci 0 || eqb x.tfci 4 || eqb x.tfci 8 || eqb x.tfci 16 || eqb x.tfci 32)) (not (eqb x.tpc 0 || eqb x.tpc 2)) control.0 in
    let burst-in = or_false (ltb x.burst 1) (ltb 3 x.burst) two.0 in
    let f = one_of (λ q. q ≤ 16) x.factor 1 (2 ∷ 4 ∷ 8 ∷ 16 ∷ []) (lit≤ tt, (lit≤ tt, (lit≤ tt, (lit≤ tt, (lit≤ tt, tt))))) (not-false _ split.0) in
    let i = ltb-false x.factor x.index inside.1 in
    record {
      timeslot_high = omega (arith, ltb-false 14 x.timeslot five.0);
      burst_high = omega (arith, ltb-false 3 x.burst burst-in.1);
      factor_high = omega (arith, f);
      index_high = omega (arith, f, i);
      user_in = omega (arith, user_high x.burst x.user four.0);
      tfci_high = omega (arith, one_of (λ q. q ≤ 32) x.tfci 0 (4 ∷ 8 ∷ 16 ∷ 32 ∷ []) (lit≤ tt, (lit≤ tt, (lit≤ tt, (lit≤ tt, (lit≤ tt, tt))))) (not-false _ bits.0));
      tpc_high = omega (arith, one_of (λ q. q ≤ 2) x.tpc 0 (2 ∷ []) (lit≤ tt, (lit≤ tt, tt)) (not-false _ bits.1));
    }

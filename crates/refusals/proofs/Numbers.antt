-- Each refusal has a number of its own, and none has 0; so what a call's result says leaves one result. Cited by the calls' proofs and by their theorems of uniqueness.
-- Assumes nothing.
use mathlib.Core.Path.{◌≡◌, refl, sym, ap, ◌∙◌}
use mathlib.Core.Bool.{cond}
use Prim.Native.Nat.{ℕ}
use native.Mathlib.Omega.{arith}
use lib.Dec.{eqb}
use Rattle.std.specs.Prelude.{Result, Ok, Err}
use Rattle.refusals.specs.declared.Refusal.{Refusal}
use Rattle.refusals.specs.declared.Refusal.TheVariants as refusal
use Rattle.refusals.specs.Refusals.{Answer, refused, answered, number_of, refusal_in, said, said_as}

-- the refusal of a number; any other number stands for the last
of_number : ℕ → Refusal
of_number n =
    cond (eqb n 1) refusal.Cell (
    cond (eqb n 2) refusal.BurstType (
    cond (eqb n 3) refusal.Count (
    cond (eqb n 4) refusal.User (
    cond (eqb n 5) refusal.Timeslot (
    cond (eqb n 6) refusal.Code (
    cond (eqb n 7) refusal.DownlinkType (
    cond (eqb n 8) refusal.Control (
    cond (eqb n 9) refusal.Synchronisation (
    cond (eqb n 10) refusal.OutOfRange (
    cond (eqb n 11) refusal.ShortMemory (
    cond (eqb n 12) refusal.BrokenBook (
    cond (eqb n 13) refusal.NoSuchSeat (
    cond (eqb n 14) refusal.SeatClosed (
    cond (eqb n 15) refusal.SeatOpen (
    cond (eqb n 16) refusal.UserOfSeat (
    cond (eqb n 17) refusal.Clash (
    cond (eqb n 18) refusal.BeaconRule (
    cond (eqb n 19) refusal.SeatFull (
    cond (eqb n 20) refusal.RoomUsedUp (
    cond (eqb n 21) refusal.NoSuchBooking (
    cond (eqb n 22) refusal.Level (
    cond (eqb n 23) refusal.BlockPlace refusal.Sample))))))))))))))))))))))

-- the number of a refusal leads back to it
back : (r : Refusal) → of_number (number_of r) ≡ r
unfolding number_of of_number
back refusal.Cell = refl
back refusal.BurstType = refl
back refusal.Count = refl
back refusal.User = refl
back refusal.Timeslot = refl
back refusal.Code = refl
back refusal.DownlinkType = refl
back refusal.Control = refl
back refusal.Synchronisation = refl
back refusal.OutOfRange = refl
back refusal.ShortMemory = refl
back refusal.BrokenBook = refl
back refusal.NoSuchSeat = refl
back refusal.SeatClosed = refl
back refusal.SeatOpen = refl
back refusal.UserOfSeat = refl
back refusal.Clash = refl
back refusal.BeaconRule = refl
back refusal.SeatFull = refl
back refusal.RoomUsedUp = refl
back refusal.NoSuchBooking = refl
back refusal.Level = refl
back refusal.BlockPlace = refl
back refusal.Sample = refl

pub number_once : (r r' : Refusal) → number_of r ≡ number_of r' → r ≡ r'
number_once r r' e = sym (back r) ∙ (ap of_number e ∙ back r')

pub number_not_0 : (r : Refusal) → number_of r ≡ 0 → ⊥
unfolding number_of
number_not_0 refusal.Cell e = omega arith
number_not_0 refusal.BurstType e = omega arith
number_not_0 refusal.Count e = omega arith
number_not_0 refusal.User e = omega arith
number_not_0 refusal.Timeslot e = omega arith
number_not_0 refusal.Code e = omega arith
number_not_0 refusal.DownlinkType e = omega arith
number_not_0 refusal.Control e = omega arith
number_not_0 refusal.Synchronisation e = omega arith
number_not_0 refusal.OutOfRange e = omega arith
number_not_0 refusal.ShortMemory e = omega arith
number_not_0 refusal.BrokenBook e = omega arith
number_not_0 refusal.NoSuchSeat e = omega arith
number_not_0 refusal.SeatClosed e = omega arith
number_not_0 refusal.SeatOpen e = omega arith
number_not_0 refusal.UserOfSeat e = omega arith
number_not_0 refusal.Clash e = omega arith
number_not_0 refusal.BeaconRule e = omega arith
number_not_0 refusal.SeatFull e = omega arith
number_not_0 refusal.RoomUsedUp e = omega arith
number_not_0 refusal.NoSuchBooking e = omega arith
number_not_0 refusal.Level e = omega arith
number_not_0 refusal.BlockPlace e = omega arith
number_not_0 refusal.Sample e = omega arith

-- equal answers are equal refusals, or equal values
refused_parts : {A : Type 0} (m n : ℕ) (x y : Answer A) → x ≡ refused m → y ≡ refused n → x ≡ y → m ≡ n
refused_parts m n x y p q e = cc

answered_parts : {A : Type 0} (v w : A) → answered v ≡ answered w → v ≡ w
answered_parts v w e = cc

refused_not_answered : {A : Type 0} (n : ℕ) (v : A) → refused n ≡ answered v → ⊥
refused_not_answered n v e = let z : ◌≡◌ {A = ℕ} 0 1 = cc in absurd (omega arith)

-- two results that say the same are the same
pub said_once : {A : Type 0} (r r' : Result A Refusal) → said r ≡ said r' → r ≡ r'
said_once (Ok v) (Ok w) e = ap Ok (answered_parts v w e)
said_once (Err r) (Err r') e = ap Err (number_once r r' (refused_parts _ _ _ _ refl refl e))
said_once (Ok v) (Err r') e = absurd (refused_not_answered _ _ (sym e))
said_once (Err r) (Ok w) e = absurd (refused_not_answered _ _ e)

-- the same, where values that mean the same are the same
pub said_as_once : {A B : Type 0} (meant : A → B) → ((v w : A) → meant v ≡ meant w → v ≡ w)
    → (r r' : Result A Refusal) → said_as meant r ≡ said_as meant r' → r ≡ r'
said_as_once meant once (Ok v) (Ok w) e = ap Ok (once v w (answered_parts _ _ e))
said_as_once meant once (Err r) (Err r') e = ap Err (number_once r r' (refused_parts _ _ _ _ refl refl e))
said_as_once meant once (Ok v) (Err r') e = absurd (refused_not_answered _ _ (sym e))
said_as_once meant once (Err r) (Ok w) e = absurd (refused_not_answered _ _ e)

-- a test's results with the same number are the same
pub refusal_in_once : (r r' : Result Unit Refusal) → refusal_in r ≡ refusal_in r' → r ≡ r'
refusal_in_once (Ok v) (Ok w) e = refl
refusal_in_once (Err r) (Err r') e = ap Err (number_once r r' e)
refusal_in_once (Ok v) (Err r') e = absurd (number_not_0 r' (sym e))
refusal_in_once (Err r) (Ok w) e = absurd (number_not_0 r e)

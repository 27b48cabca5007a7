-- A blank place: all its numbers are 0 where they are 0 as one number, and so are those of many places joined bit by bit. Cited by number_of's and row_ok's proofs.
-- Assumes nothing.
use mathlib.Core.Path.{◌≡◌, refl, sym, ◌∙◌}
use mathlib.Core.Logic.{⊎_elim}
use mathlib.Core.Bool.{Bool, true, false, not, ◌&&◌}
use Prim.Native.Nat.{ℕ, zero, suc, ◌+◌, ◌*◌, ◌/◌, ◌%◌, ◌≤◌, max}
use native.Mathlib.Omega.{arith}
use mir.Val.{bool_byte}
use lib.Bits.{bit_or, or_step}
use lib.Dec.{eqb}
use borrow.Author.Tests.{eqb-true, eqb-false, eq-eqb, ne_eqb}
use Rattle.laws.proofs.Lists.{by_cases}
use Rattle.conditions.specs.Conditions.{is_down}
use Rattle.bookings.specs.declared.Booking.{Booking}
use Rattle.seats.specs.Seats.{is_blank}

-- a number of two parts is 0 where both are
parts : (a b : ℕ) → eqb (a + b * 256) 0 ≡ (eqb a 0 && eqb b 0)
parts a b = ⊎_elim low high (by_cases (eqb a 0))
  where
    low : eqb a 0 ≡ true → eqb (a + b * 256) 0 ≡ (eqb a 0 && eqb b 0)
    low t = rw t (⊎_elim none some (by_cases (eqb b 0)))
      where
        none : eqb b 0 ≡ true → eqb (a + b * 256) 0 ≡ eqb b 0
        none f = eq-eqb (a + b * 256) 0 (omega (arith, eqb-true a 0 t, eqb-true b 0 f)) ∙ sym f

        some : eqb b 0 ≡ false → eqb (a + b * 256) 0 ≡ eqb b 0
        some f = ne_eqb (a + b * 256) 0 (λ z. eqb-false b 0 f (omega (arith, z))) ∙ sym f

    high : eqb a 0 ≡ false → eqb (a + b * 256) 0 ≡ (eqb a 0 && eqb b 0)
    high f = rw f (ne_eqb (a + b * 256) 0 (λ z. eqb-false a 0 f (omega (arith, z))))

-- the byte of a flag is 0 where it is not set
no_flag : (b : Bool) → eqb (bool_byte b) 0 ≡ not b
no_flag true = refl
no_flag false = refl

pub flag_low : (b : Bool) → bool_byte b ≤ 1
flag_low true = omega arith
flag_low false = omega arith

pub blank_told : (x : Booking) (down : Bool) → down ≡ is_down x.direction
    → eqb (x.timeslot + (bool_byte down + (x.burst + (x.factor + (x.index + (x.user + (x.tfci + x.tpc * 256) * 256) * 256) * 256) * 256) * 256) * 256) 0 ≡ is_blank x
unfolding is_blank
blank_told x down e =
    let c = x.tfci + x.tpc * 256 in
    let u = x.user + c * 256 in
    let i = x.index + u * 256 in
    let f = x.factor + i * 256 in
    let b = x.burst + f * 256 in
    rw (parts x.timeslot (bool_byte down + b * 256), parts (bool_byte down) b, parts x.burst f, parts x.factor i, parts x.index u, parts x.user c, parts x.tfci x.tpc, no_flag down, e)

-- ---- numbers joined bit by bit are 0 where both are
halves : (f a b : ℕ) → a + b ≤ f → bit_or a b ≡ 0 → (a ≡ 0) × (b ≡ 0)
halves zero a b le e = (omega arith, omega arith)
halves (suc f) a b le e =
    let z : bit_or (a / 2) (b / 2) * 2 + max (a % 2) (b % 2) ≡ 0 = sym (or_step a b) ∙ e in
    let q = halves f (a / 2) (b / 2) (omega arith) (omega (arith, z)) in
    (omega (arith, z, q.0, q.1), omega (arith, z, q.0, q.1))

pub or_zero : (a b : ℕ) → eqb (bit_or a b) 0 ≡ (eqb a 0 && eqb b 0)
or_zero a b = ⊎_elim low high (by_cases (eqb a 0))
  where
    low : eqb a 0 ≡ true → eqb (bit_or a b) 0 ≡ (eqb a 0 && eqb b 0)
    low t = rw t (⊎_elim none some (by_cases (eqb b 0)))
      where
        none : eqb b 0 ≡ true → eqb (bit_or a b) 0 ≡ eqb b 0
        none f = rw (eqb-true a 0 t, eqb-true b 0 f)

        some : eqb b 0 ≡ false → eqb (bit_or a b) 0 ≡ eqb b 0
        some f = ne_eqb (bit_or a b) 0 (λ z. eqb-false b 0 f (halves (a + b) a b (omega arith) z).1) ∙ sym f

    high : eqb a 0 ≡ false → eqb (bit_or a b) 0 ≡ (eqb a 0 && eqb b 0)
    high f = rw f (ne_eqb (bit_or a b) 0 (λ z. eqb-false a 0 f (halves (a + b) a b (omega arith) z).0))

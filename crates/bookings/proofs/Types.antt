-- Being type 2 or not parts the types in two, and types do not clash where they are of one part: so one truth value says of all bookings of a timeslot which types
-- clash with them. Cited by Clash and by the crate facts. Assumes nothing.
use mathlib.Core.Path.{◌≡◌, refl, sym}
use mathlib.Core.Logic.{◌↔◌}
use mathlib.Core.Bool.{Bool, true, false, xor}
use Prim.Native.Nat.{ℕ}
use lib.Dec.{eqb}
use Rattle.laws.proofs.Bools.{true_false}
use Rattle.bookings.specs.Bookings.{mixed}

not_one : (a b : Bool) → (xor a b ≡ false) ↔ (a ≡ b)
unfolding xor
not_one true true = (λ e. refl, λ e. refl)
not_one false false = (λ e. refl, λ e. refl)
not_one true false = (λ e. true_false e, λ e. true_false e)
not_one false true = (λ e. true_false e, λ e. true_false (sym e))

-- types do not clash exactly where both are type 2, or neither is: the others follow from this
pub alike : (t u : ℕ) → (mixed t u ≡ false) ↔ (eqb t 2 ≡ eqb u 2)
unfolding mixed
alike t u = not_one (eqb t 2) (eqb u 2)

-- a type does not clash with itself
pub mixed_self : (t : ℕ) → mixed t t ≡ false
mixed_self t = (alike t t).1 refl

-- two clash whichever is named first
turned : (t u : ℕ) → mixed t u ≡ false → mixed u t ≡ false
turned t u p = (alike u t).1 (sym ((alike t u).0 p))

false_together : (a b : Bool) → (a ≡ false → b ≡ false) → (b ≡ false → a ≡ false) → a ≡ b
false_together true true f g = refl
false_together false false f g = refl
false_together true false f g = g refl
false_together false true f g = sym (f refl)

pub mixed_turn : (t u : ℕ) → mixed t u ≡ mixed u t
mixed_turn t u = false_together (mixed t u) (mixed u t) (turned t u) (turned u t)

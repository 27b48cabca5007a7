-- Places on a circle that lie apart, and the shifts of the users up to K', over the numbers of a code.
-- Cited by Shifts. Assumes nothing.
use mathlib.Core.Path.{◌≡◌, refl}
use mathlib.Core.Logic.{inl, inr, ⊎_elim}
use Prim.Native.Nat.{ℕ, ◌+◌, ◌-◌, ◌*◌, ◌≤◌}
use native.Mathlib.Nat.{mul-le-mul_right}
use native.Mathlib.Omega.{arith}
use lib.Dec.{lit≤}
use borrow.Author.Tests.{le-leb}
use Rattle.codes.specs.declared.Code.{Code}
use Rattle.codes.specs.Codes.{code_of, shift_of}
use Rattle.codes.proofs.Numbers.{of_codes}
use Rattle.facts.specs.Permitted.{Apart}

-- what both codes share: K' steps are a period, and two half steps are no more than a step
pub record Spaced (c : Code) : Type 0 where
  pub some : 1 ≤ c.base
  pub round : c.period ≡ c.base * c.step
  pub halves : 2 * c.half ≤ c.step

pub spaced : (burst : ℕ) → Spaced (code_of burst)
spaced =
    of_codes (λ c. Spaced c) (record { some = lit≤ tt; round = refl; halves = lit≤ tt })
    (record { some = lit≤ tt; round = refl; halves = lit≤ tt })

pub turned_round : (P d s t : ℕ) → Apart P d s t → Apart P d t s
unfolding Apart
turned_round P d s t a = (⊎_elim (λ h. inr h) (λ h. inl h) a.0, (a.1.1, a.1.0))

module _ (c : Code) (sp : Spaced c) where
  -- g steps lie between two places, and g steps from the higher one round to the lower; what is
  -- added to each is less than that
  pub steps_apart : (g d X Y y z : ℕ) → X + g ≤ Y → Y + g ≤ c.base + X → y + d ≤ g * c.step + z
      → z + d ≤ g * c.step + y → Apart c.period d (X * c.step + y) (Y * c.step + z)
  unfolding Apart
  steps_apart g d X Y y z up down hy hz =
      let u = mul-le-mul_right c.step up in
      let w = mul-le-mul_right c.step down in (
        inl (omega (arith, u, hy)),
        (omega (arith, u, hy), omega (arith, w, hz, sp.round)),
      )

  -- ---- users up to K'

  pub low_shift : (k : ℕ) → k ≤ c.base → shift_of c k ≡ (c.base - k) * c.step + 0
  unfolding shift_of
  low_shift k h = simp (le-leb k c.base h) (omega arith)

  -- two of them that are g users from each other, also round
  pub users_apart : (g k l : ℕ) → l ≤ c.base → k + g ≤ l → l + g ≤ c.base + k
      → Apart c.period (g * c.step) (shift_of c k) (shift_of c l)
  users_apart g k l high up down =
      rw (low_shift k (omega arith), low_shift l high)
      (turned_round _ _ _ _
      (steps_apart g (g * c.step) (c.base - l) (c.base - k) 0 0 (omega arith) (omega arith) (omega arith)
      (omega arith)))

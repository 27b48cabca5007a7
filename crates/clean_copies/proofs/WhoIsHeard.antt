-- Document 02, C-18, of whom `hear` answers: one of the permitted users, none of whom is heard better, the lowest of those who are heard alike; and nobody exactly where all sums of all
-- permitted users are zero. By Loudest.antt. Cited by CleanCopies.antt; else it is for the reader. Assumes nothing.
use mathlib.Core.Path.{◌≡◌, refl, ap, ◌∙◌}
use mathlib.Core.Bool.{true}
use mathlib.Core.List.{List}
use mathlib.Core.Logic.{◌⊎◌, ⊎_elim, ◌↔◌}
use Prim.Native.Nat.{ℕ, zero, suc, ◌+◌, ◌*◌, ◌<◌, ◌≤◌}
use native.Mathlib.Nat.{mul-pos, zero-lt-suc}
use native.Mathlib.Omega.{arith}
use lib.IntN.{ℤ, pos, negsuc, nat_abs}
use lib.Ieee.{Float}
use Rattle.codes.specs.Codes.{code_of, permitted}
use Rattle.codes.proofs.Permitted.{user_low, setting}
use Rattle.correlation.specs.Correlation.{real_sum, imaginary_sum}
use Rattle.hearing.specs.Hearing.{strength}
use Rattle.hearing.specs.Calls.{who_is_heard}
use Rattle.clean_copies.proofs.Loudest.{allowed, greatest, lowest, nobody}

-- no permitted user is above K = 2K'
pub user_high : (burst count user : ℕ) → permitted (code_of burst) count user ≡ true → user ≤ 2 * (code_of burst).base
user_high burst count user e = ⊎_elim (λ all. all.1) (⊎_elim (λ f. omega (arith, f.1)) (λ o. omega (arith, o.1.0))) (setting (code_of burst) count user e)

-- a user is not heard exactly where both sums are zero
no_squares : (a b : ℕ) → a * a + b * b ≡ 0 → (a ≡ 0) × (b ≡ 0)
no_squares zero zero e = (refl, refl)
no_squares (suc a) b e = let some = mul-pos (zero-lt-suc a) (zero-lt-suc a) in absurd (omega arith)
no_squares zero (suc b) e = let some = mul-pos (zero-lt-suc b) (zero-lt-suc b) in absurd (omega arith)

no_size : (z : ℤ) → nat_abs z ≡ 0 → z ≡ pos 0
no_size (pos n) e = ap pos e
no_size (negsuc n) e = absurd (omega arith)

module _ (cell burst count : ℕ) (row : List Float) where
  silent : (l : ℕ) → 1 ≤ l → strength cell burst row l ≡ 0 → (real_sum cell burst row l ≡ pos 0) × (imaginary_sum cell burst row l ≡ pos 0)
  unfolding strength
  silent zero low e = absurd (omega arith)
  silent (suc k) low e =
      let both = no_squares (nat_abs (real_sum cell burst row (suc k))) (nat_abs (imaginary_sum cell burst row (suc k))) e in
      (no_size (real_sum cell burst row (suc k)) both.0, no_size (imaginary_sum cell burst row (suc k)) both.1)

  unheard : (l : ℕ) → 1 ≤ l → (real_sum cell burst row l ≡ pos 0) × (imaginary_sum cell burst row l ≡ pos 0) → strength cell burst row l ≡ 0
  unfolding strength
  unheard zero low e = refl
  unheard (suc k) low e =
      ap (λ (z : ℤ). nat_abs z * nat_abs z + nat_abs (imaginary_sum cell burst row (suc k)) * nat_abs (imaginary_sum cell burst row (suc k))) e.0
      ∙ ap (λ (z : ℤ). 0 * 0 + nat_abs z * nat_abs z) e.1

  nobody_silent : strength cell burst row 0 ≡ 0
  unfolding strength
  nobody_silent = refl

  -- who is answered is permitted
  pub heard_permitted : (who_is_heard cell burst count row ≡ 0) ⊎ (permitted (code_of burst) count (who_is_heard cell burst count row) ≡ true)
  unfolding who_is_heard
  heard_permitted = allowed (permitted (code_of burst) count) (strength cell burst row) nobody_silent (2 * (code_of burst).base)

  -- "the user with the greatest sum of squares"
  pub heard_greatest : (l : ℕ) → permitted (code_of burst) count l ≡ true → strength cell burst row l ≤ strength cell burst row (who_is_heard cell burst count row)
  unfolding who_is_heard
  heard_greatest l may = greatest (permitted (code_of burst) count) (strength cell burst row) nobody_silent (2 * (code_of burst).base) l (user_high burst count l may) may

  -- "the lowest user on a tie"
  pub heard_lowest : (l : ℕ) → permitted (code_of burst) count l ≡ true → l < who_is_heard cell burst count row → strength cell burst row l < strength cell burst row (who_is_heard cell burst count row)
  unfolding who_is_heard
  heard_lowest l may below = lowest (permitted (code_of burst) count) (strength cell burst row) nobody_silent (2 * (code_of burst).base) l below may

  -- "nobody if all sums are zero"
  pub heard_nobody : (who_is_heard cell burst count row ≡ 0) ↔ ((l : ℕ) → permitted (code_of burst) count l ≡ true → (real_sum cell burst row l ≡ pos 0) × (imaginary_sum cell burst row l ≡ pos 0))
  unfolding who_is_heard
  heard_nobody =
      let law = nobody (permitted (code_of burst) count) (strength cell burst row) nobody_silent (2 * (code_of burst).base) in (
        (λ e l may. silent l (user_low (code_of burst) count l may) (law.0 e l (user_high burst count l may) may)),
        (λ all. law.1 (λ l high may. unheard l (user_low (code_of burst) count l may) (all l may))),
      )

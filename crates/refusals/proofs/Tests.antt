-- A call's code tests its table row by row, and the first row that holds ends it: what each test that passed, or that did not, says of the table's first refusal.
-- Cited by the proofs of the crates whose calls read a table. Assumes nothing.
use mathlib.Core.Path.{◌≡◌, refl, sym, ◌∙◌}
use mathlib.Core.Bool.{Bool, true, false}
use mathlib.Core.List.{[], ◌∷◌, ◌++◌}
use Prim.Native.Nat.{ℕ}
use lib.Dec.{T}
use Rattle.refusals.specs.declared.Refusal.{Refusal}
use Rattle.refusals.specs.Refusals.{Refusals, first_of, number_of}
use Rattle.refusals.proofs.First.{numbered, first_holds, first_passes, append_refused, append_passes}
use Rattle.refusals.proofs.Numbers.{number_not_0}

-- with the rows that are left it comes to the table's first refusal
pub record Testing (left : Refusals) (first : ℕ) : Type 0 where
  pub comes : first_of left ≡ first

-- it begins at the table, or behind a first part of it, none of which holds
pub tests : (t : Refusals) → Testing t (first_of t)
tests t = record { comes = refl }

pub tests_behind : (t u : Refusals) → T (numbered t) → first_of t ≡ 0 → Testing u (first_of (t ++ u))
tests_behind t u k z = record { comes = sym (append_passes t u k z) }

-- a row that does not hold: the rest decides
pub tests_row : {first n : ℕ} {b : Bool} {left : Refusals} → Testing ((n, b) ∷ left) first → b ≡ false → Testing left first
tests_row {n = n} {b} {left} testing e = record { comes = sym (first_passes n b left e) ∙ testing.comes }

-- one that holds is the table's first refusal
pub tests_given : {first n : ℕ} {b : Bool} {left : Refusals} → Testing ((n, b) ∷ left) first → b ≡ true → n ≡ first
tests_given {n = n} {b} {left} testing e = sym (first_holds n b left e) ∙ testing.comes

-- none held
pub tests_none : {first : ℕ} → Testing [] first → 0 ≡ first
unfolding first_of
tests_none testing = testing.comes

-- a first part of a table, read by another function, gave a refusal: it is the table's
pub gives_behind : (t u : Refusals) (r : Refusal) → number_of r ≡ first_of t → number_of r ≡ first_of (t ++ u)
gives_behind t u r e = e ∙ sym (append_refused t u (λ z. number_not_0 r (e ∙ z)))

-- Document 02, C-13: "only odd users up to K', so users 1, 3, 5, 7", and "Shifts don't move". Why
-- there is such a count: Shifts. No function's proof cites it: it is for the reader. Assumes nothing.
use mathlib.Core.Path.{◌≡◌, refl}
use mathlib.Core.Bool.{true}
use mathlib.Core.List.{List}
use mathlib.Core.Logic.{⊎_elim}
use Prim.Native.Nat.{ℕ}
use native.Mathlib.Omega.{arith}
use lib.Ieee.{Float}
use borrow.Author.Tests.{le-leb, lt-leb, ne_eqb}
use Rattle.laws.specs.Lists.{member}
use Rattle.laws.proofs.Cases.{below_or_not, below}
use Rattle.conditions.specs.Conditions.{bad_user}
use Rattle.conditions.proofs.Counts.{count_given}
use Rattle.tables.specs.Tables.{user_refusals}
use Rattle.codes.specs.Codes.{long, code_of, permitted}
use Rattle.midambles.specs.Calls.{chip_refusals, chip_answer, midamble_refusals, midamble_outcome}
use Rattle.signal_card.specs.Calls.{pair_refusals, pair_answer, pairs_refusals, pairs_outcome}
use Rattle.facts.specs.Permitted.{wide_users}

-- ---- "only odd users up to K', so users 1, 3, 5, 7"

-- the long count 4 permits exactly these
pub wide_users_lem : (k : ℕ) → permitted long 4 k ≡ member k wide_users
unfolding permitted member wide_users
wide_users_lem k =
    ⊎_elim
    (below (λ k. permitted long 4 k ≡ member k wide_users) 9
    (((((((((tt, refl), refl), refl), refl), refl), refl), refl), refl), refl) k)
    (λ h. simp (
      le-leb 1 k (omega arith),
      lt-leb k 8 h,
      ne_eqb k 1 (λ e. omega arith),
      ne_eqb k 3 (λ e. omega arith),
      ne_eqb k 5 (λ e. omega arith),
      ne_eqb k 7 (λ e. omega arith),
    ))
    (below_or_not k 9)

-- ---- "Shifts don't move": a permitted user's chips are the same under every count that permits it

module _ (cell burst count other user : ℕ) (here : permitted (code_of burst) count user ≡ true)
    (there : permitted (code_of burst) other user ≡ true) where
  same_refusals : user_refusals cell burst count user ≡ user_refusals cell burst other user
  unfolding user_refusals bad_user
  same_refusals = rw (count_given burst count user here, count_given burst other user there, here, there) refl

  pub same_chip : (i : ℕ) → chip_answer cell burst count user i ≡ chip_answer cell burst other user i
  unfolding chip_answer chip_refusals
  same_chip i = rw same_refusals refl

  pub same_midamble : (out : List ℕ)
      → midamble_outcome cell burst count user out ≡ midamble_outcome cell burst other user out
  unfolding midamble_outcome midamble_refusals
  same_midamble out = rw same_refusals refl

  pub same_pair : (i a : ℕ)
      → pair_answer cell burst count user i a ≡ pair_answer cell burst other user i a
  unfolding pair_answer pair_refusals chip_refusals
  same_pair i a = rw same_refusals refl

  pub same_pairs : (a : ℕ) (out : List Float)
      → pairs_outcome cell burst count user a out ≡ pairs_outcome cell burst other user a out
  unfolding pairs_outcome pairs_refusals
  same_pairs a out = rw same_refusals refl

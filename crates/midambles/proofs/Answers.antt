-- What a call whose table begins with a user's knows of its own table: where the user is refused, and where it is not. Cited by the proofs of midamble_chip and midamble, and by the crates
-- blocks, signal_card and facts. Assumes nothing.
use mathlib.Core.Path.{◌≡◌, refl, sym, ap, ◌∙◌}
use mathlib.Core.List.{List, [], ◌++◌}
use Prim.Native.Nat.{ℕ, ◌+◌, ◌<◌, ◌≤◌}
use lib.Dec.{T}
use lib.ListN.{get_or, drop}
use Rattle.std.specs.Prelude.{Ok}
use Rattle.laws.specs.Runs.{run}
use Rattle.laws.proofs.Runs.{run_same}
use Rattle.refusals.specs.declared.Refusal.{Refusal}
use Rattle.refusals.specs.Refusals.{Refusals, first_of, answer, after, refused, ◌leaving◌, number_of, said}
use Rattle.refusals.proofs.First.{numbered, append_passes, answer_refused, after_refused, answered_by, answered_leaving}
use Rattle.refusals.proofs.Numbers.{number_not_0}
use Rattle.refusals.proofs.Tests.{gives_behind}
use Rattle.codes.specs.Codes.{code_of, shift_of}
use Rattle.codes.proofs.Numbers.{length_high, shift_low}
use Rattle.tables.specs.Tables.{user_refusals}
use Rattle.elements.specs.Elements.{rows_of, element}
use Rattle.midambles.specs.TrainingSequences.{chip_of, chips_of}
use Rattle.midambles.specs.Calls.{chip_refusals, midamble_refusals, chip_answer, midamble_outcome}
use Rattle.midambles.proofs.Passed.{passed}

pub user_numbered : (cell burst count user : ℕ) → T (numbered (user_refusals cell burst count user))
unfolding user_refusals
user_numbered cell burst count user = tt

pub chip_numbered : (cell burst count user i : ℕ) → T (numbered (chip_refusals cell burst count user i))
unfolding chip_refusals user_refusals
chip_numbered cell burst count user i = tt

-- one user's table, and what stands behind it
module _ (cell burst count user : ℕ) where
  abbrev users : Refusals
  users = user_refusals cell burst count user

  pub user_refused : (u : Refusals) (r : Refusal) → number_of r ≡ first_of users → first_of (users ++ u) ≡ number_of r
  user_refused u r e = sym (gives_behind users u r e)

  pub user_passed : (u : Refusals) → 0 ≡ first_of users → first_of (users ++ u) ≡ first_of u
  user_passed u e = append_passes users u (user_numbered cell burst count user) (sym e)

  pub cell_good : 0 ≡ first_of users → cell < 128
  cell_good e = (passed cell burst count user (sym e)).cell_high

  pub shift_good : 0 ≡ first_of users → shift_of (code_of burst) user ≤ 480
  shift_good e = shift_low burst user (passed cell burst count user (sym e)).user_low

-- a refusal by its number
pub answer_number : {A : Type 0} (r : Refusal) (value : A) → answer (number_of r) value ≡ refused (number_of r)
answer_number r value = answer_refused (number_of r) value (number_not_0 r)

pub after_number : {M : Type 0} (r : Refusal) (before made : M) → after (number_of r) before made ≡ before
after_number r before made = after_refused (number_of r) before made (number_not_0 r)

-- what the search is handed
pub ruleset user_steps = (user_refused, user_passed, answer_number, after_number, cell_good, shift_good, length_high)

-- elements read at the user's shift are the chips of the user
module _ (burst cell user by : ℕ) (s : by ≡ shift_of (code_of burst) user) where
  abbrev at_place : ℕ → ℕ
  at_place i = element (code_of burst).period (get_or (rows_of burst) cell []) (i + by)

  chip_of_lem : (i : ℕ) → at_place i ≡ chip_of cell burst user i
  unfolding chip_of
  chip_of_lem i = ap (λ (k : ℕ). element (code_of burst).period (get_or (rows_of burst) cell []) (i + k)) s

  pub chips_of_lem : run at_place (code_of burst).length ≡ chips_of cell burst user
  unfolding chips_of
  chips_of_lem = run_same _ _ (code_of burst).length (λ i h. chip_of_lem i)

-- where nothing is refused, an element read at the user's shift is the answer for one chip, and those of a whole row are the outcome for a midamble
pub chip_answered : (cell burst count user i : ℕ) → first_of (chip_refusals cell burst count user i) ≡ 0 → (by p : ℕ) → by ≡ shift_of (code_of burst) user
    → p ≡ element (code_of burst).period (get_or (rows_of burst) cell []) (i + by) → said (Ok p) ≡ chip_answer cell burst count user i
unfolding chip_answer
chip_answered cell burst count user i z by p s v = answered_by _ _ _ _ refl z (v ∙ chip_of_lem burst cell user by s i)

pub midamble_written : (cell burst count user : ℕ) (out : List ℕ) → first_of (midamble_refusals cell burst count user out) ≡ 0 → (by : ℕ) (l : List ℕ)
    → by ≡ shift_of (code_of burst) user
    → l ≡ run (λ (i : ℕ). element (code_of burst).period (get_or (rows_of burst) cell []) (i + by)) (code_of burst).length ++ drop (code_of burst).length out
    → said (Ok (code_of burst).length) leaving l ≡ midamble_outcome cell burst count user out
unfolding midamble_outcome
midamble_written cell burst count user out z by l s v =
    answered_leaving _ _ _ _ out l _ refl z refl
    (v ∙ ap (λ (x : List ℕ). x ++ drop (code_of burst).length out) (chips_of_lem burst cell user by s))

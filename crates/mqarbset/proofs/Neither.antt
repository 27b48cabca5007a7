-- A direction that is neither up nor down: the calls of the library, asked with a factor that is none, are refused as the tables over C say, with 6 at 6's place.
-- Cited by the proofs of `mq_parts` and `mq_at`. Assumes nothing.
use mathlib.Core.Path.{◌≡◌, refl}
use mathlib.Core.Bool.{Bool, true, false, cond}
use mathlib.Core.List.{[], ◌∷◌, ◌++◌}
use Prim.Native.Nat.{ℕ}
use Rattle.conditions.specs.Conditions.{bad_type, bad_factor, bad_slot_chip}
use Rattle.tables.specs.Tables.{parts_refusals}
use Rattle.refusals.specs.Refusals.{Refusals, first_of, answer}
use Rattle.timeslots.specs.Calls.{at_refusals, parts_answer, at_answer}
use Rattle.mqarbset_book.specs.Mirror.{neither, read_direction}
use Rattle.mqarbset_book.specs.Inside.{factor_beside}
use Rattle.mqarbset.specs.Calls.{parts_refusals_over_c, parts_answer_over_c, at_answer_over_c}

-- a call that is refused at 6 at the latest says so, whatever it would have answered
by_number : {A : Type 0} (two : Bool) (v w : A) (n m : ℕ) → n ≡ cond two 2 6 → m ≡ cond two 2 6 → answer n v ≡ answer m w
unfolding answer
by_number true v w n m en em = simp (en, em)
by_number false v w n m en em = simp (en, em)

module _ (burst direction factor tfci tpc : ℕ) where
  library_number : (rest : Refusals) → neither direction ≡ true
      → first_of (parts_refusals burst (read_direction direction) (factor_beside direction factor) tfci tpc ++ rest) ≡ cond (bad_type burst) 2 6
  unfolding parts_refusals factor_beside bad_factor first_of
  library_number rest e = simp e

  table_number : (rest : Refusals) → neither direction ≡ true → first_of (parts_refusals_over_c burst direction factor tfci tpc ++ rest) ≡ cond (bad_type burst) 2 6
  unfolding parts_refusals_over_c first_of
  table_number rest e = simp e

  parts_by : (n : Bool) → neither direction ≡ n
      → parts_answer burst (read_direction direction) (factor_beside direction factor) tfci tpc ≡ parts_answer_over_c burst direction factor tfci tpc
  unfolding parts_answer parts_answer_over_c parts_refusals parts_refusals_over_c factor_beside first_of
  parts_by true e = by_number (bad_type burst) _ _ _ _ (library_number [] e) (table_number [] e)
  parts_by false e = simp e

  pub parts_over : parts_answer burst (read_direction direction) (factor_beside direction factor) tfci tpc ≡ parts_answer_over_c burst direction factor tfci tpc
  parts_over = parts_by (neither direction) refl

  at_by : (chip : ℕ) (n : Bool) → neither direction ≡ n
      → at_answer burst (read_direction direction) (factor_beside direction factor) tfci tpc chip ≡ at_answer_over_c burst direction factor tfci tpc chip
  unfolding at_answer at_refusals at_answer_over_c parts_refusals parts_refusals_over_c factor_beside first_of
  at_by chip true e = by_number (bad_type burst) _ _ _ _ (library_number ((10, bad_slot_chip chip) ∷ []) e) (table_number ((10, bad_slot_chip chip) ∷ []) e)
  at_by chip false e = simp e

  pub at_over : (chip : ℕ)
      → at_answer burst (read_direction direction) (factor_beside direction factor) tfci tpc chip ≡ at_answer_over_c burst direction factor tfci tpc chip
  at_over chip = at_by chip (neither direction) refl

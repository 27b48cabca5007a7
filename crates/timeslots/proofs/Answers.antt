-- What the two definitions `parts_answer` and `at_answer` come to: the parts' refusals, then 10, then what lies at the chip.
-- Cited by the proof of `at`, and by the crates there_and_back and facts. Assumes nothing.
use mathlib.Core.Path.{◌≡◌, sym, ◌∙◌}
use mathlib.Core.List.{[], ◌∷◌}
use Prim.Native.Nat.{ℕ, ◌<◌, ◌≤◌}
use native.Mathlib.Omega.{arith}
use borrow.Author.Tests.{lt-ltb, le-ltb}
use Rattle.refusals.specs.Refusals.{refused, answered, first_of}
use Rattle.refusals.proofs.First.{first_holds, first_passes, append_refused, append_passes}
use Rattle.refusals.proofs.First.{answer_refused, answer_answered, answer_given}
use Rattle.conditions.specs.declared.Direction.{Direction}
use Rattle.conditions.specs.Conditions.{bad_slot_chip}
use Rattle.tables.specs.Tables.{parts_refusals}
use Rattle.timeslots.specs.Timeslots.{SevenParts, seven_parts, lies_at}
use Rattle.timeslots.specs.Calls.{at_refusals, parts_answer, at_answer}

module _ (burst : ℕ) (direction : Direction) (factor tfci tpc : ℕ) where
  pub parts_given : (given : SevenParts) → parts_answer burst direction factor tfci tpc ≡ answered given
      → (first_of (parts_refusals burst direction factor tfci tpc) ≡ 0) × (seven_parts burst direction factor tfci tpc ≡ given)
  unfolding parts_answer
  parts_given given e = answer_given _ _ _ e

  pub at_refused : (chip n : ℕ) → n ≡ first_of (parts_refusals burst direction factor tfci tpc) → (n ≡ 0 → ⊥)
      → at_answer burst direction factor tfci tpc chip ≡ refused n
  unfolding at_answer at_refusals
  at_refused chip n e h =
      let first = append_refused (parts_refusals burst direction factor tfci tpc) ((10, bad_slot_chip chip) ∷ []) (λ z. h (e ∙ z)) ∙ sym e in
      rw first (answer_refused n _ h)

  last : (chip : ℕ) → first_of (parts_refusals burst direction factor tfci tpc) ≡ 0
      → first_of (at_refusals burst direction factor tfci tpc chip) ≡ first_of ((10, bad_slot_chip chip) ∷ [])
  unfolding at_refusals parts_refusals
  last chip z = append_passes (parts_refusals burst direction factor tfci tpc) _ tt z

  pub at_beyond : (chip : ℕ) → first_of (parts_refusals burst direction factor tfci tpc) ≡ 0 → 2559 < chip
      → at_answer burst direction factor tfci tpc chip ≡ refused 10
  unfolding at_answer bad_slot_chip
  at_beyond chip z h =
      let first = last chip z ∙ first_holds 10 _ _ (lt-ltb 2559 chip h) in
      rw first (answer_refused 10 _ (λ e. omega arith))

  pub at_answered : (chip : ℕ) → first_of (parts_refusals burst direction factor tfci tpc) ≡ 0 → chip ≤ 2559
      → at_answer burst direction factor tfci tpc chip ≡ answered (lies_at burst direction factor tfci tpc chip)
  unfolding at_answer bad_slot_chip first_of
  at_answered chip z h = answer_answered _ _ (last chip z ∙ first_passes 10 _ [] (le-ltb 2559 chip h))

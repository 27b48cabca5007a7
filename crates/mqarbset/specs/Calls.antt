-- Parts of a timeslot and what lies at a chip over C, where the direction is a number: document 01's tables, with 6 also for a direction that is neither.
-- Cited by the promises of mq_parts and mq_at. Assumes nothing.
use Rattle.std.specs.Prelude.{◌||◌, [], ◌∷◌, ◌++◌, ℕ}
use Rattle.conditions.specs.Conditions.{bad_type, bad_factor, bad_down_factor, bad_down_type, bad_control, bad_slot_chip}
use Rattle.refusals.specs.Refusals.{Answer, Refusals, first_of, answer}
use Rattle.timeslots.specs.Timeslots.{Part, SevenParts, seven_parts, lies_at}
use Rattle.mqarbset_book.specs.Mirror.{neither, read_direction}

module _ (burst direction factor tfci tpc : ℕ) where
  -- parts (2, 6, 7, 8): the table
  unfoldable pub parts_refusals_over_c : Refusals
  parts_refusals_over_c =
      let d = read_direction direction in
      (2, bad_type burst) ∷
      (6, neither direction || (bad_factor factor || bad_down_factor d factor)) ∷
      (7, bad_down_type d burst) ∷
      (8, bad_control d tfci tpc) ∷ []

  -- and the answer: the seven parts and the bits of both data parts
  unfoldable pub parts_answer_over_c : Answer SevenParts
  parts_answer_over_c = answer (first_of parts_refusals_over_c) (seven_parts burst (read_direction direction) factor tfci tpc)

  -- what lies at a chip (2, 6, 7, 8, 10): the part and the symbol number or offset in it
  unfoldable pub at_answer_over_c : ℕ → Answer (Part × ℕ)
  at_answer_over_c chip =
      answer (first_of (parts_refusals_over_c ++ ((10, bad_slot_chip chip) ∷ [])))
      (lies_at burst (read_direction direction) factor tfci tpc chip)

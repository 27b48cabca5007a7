-- Document 01, "Parts of a timeslot": of each call the refusals in their order, what its value says, and the answer that it must give.
-- Cited by the promises of `parts` and `at`. Assumes nothing.
use Rattle.std.specs.Prelude.{[], ◌∷◌, ◌++◌, ℕ}
use Rattle.conditions.specs.Conditions.{bad_slot_chip}
use Rattle.tables.specs.Tables.{parts_refusals}
use Rattle.refusals.specs.Refusals.{Answer, Refusals, first_of, answer}
use Rattle.conditions.specs.declared.Direction.{Direction}
use Rattle.timeslots.specs.declared.Span.{Span}
use Rattle.timeslots.specs.declared.Layout.{Layout}
use Rattle.timeslots.specs.declared.Lying.{Lying}
use Rattle.timeslots.specs.declared.Lying.TheVariants as lying
use Rattle.timeslots.specs.declared.Symbol.TheVariants.{Data1, Data2, Tfci1, Tfci2, Tpc}
use Rattle.timeslots.specs.Timeslots.{Part, DATA1, TFCI1, MIDAMBLE, TPC, TFCI2, DATA2, GUARD, SevenParts, seven_parts, lies_at}

-- "what lies at a chip, 2, 6 (factor and direction only), 7, 8, 10"
unfoldable pub at_refusals : ℕ → Direction → ℕ → ℕ → ℕ → ℕ → Refusals
at_refusals burst direction factor tfci tpc chip = parts_refusals burst direction factor tfci tpc ++ ((10, bad_slot_chip chip) ∷ [])

-- what the seven parts say: the spans in time order, and the bits of both data parts
abbrev pub said_span : Span → ℕ × ℕ
said_span s = (s.start, s.length)

unfoldable pub said_layout : Layout → SevenParts
said_layout l = (
  said_span l.data1 ∷ said_span l.tfci1 ∷ said_span l.midamble ∷ said_span l.tpc ∷
      said_span l.tfci2 ∷ said_span l.data2 ∷ said_span l.guard ∷ [],
  (l.bits1, l.bits2),
)

-- the answer that `parts` must give
unfoldable pub parts_answer : ℕ → Direction → ℕ → ℕ → ℕ → Answer SevenParts
parts_answer burst direction factor tfci tpc =
    answer (first_of (parts_refusals burst direction factor tfci tpc)) (seven_parts burst direction factor tfci tpc)

-- what lies at a chip: "midamble or guard with the offset in it, or a symbol; data and control carry which part it is and the symbol number"
abbrev pub said_lying : Lying → Part × ℕ
said_lying (lying.Midamble n) = (MIDAMBLE, n)
said_lying (lying.Guard n) = (GUARD, n)
said_lying (lying.Symbol (Data1 n)) = (DATA1, n)
said_lying (lying.Symbol (Data2 n)) = (DATA2, n)
said_lying (lying.Symbol (Tfci1 n)) = (TFCI1, n)
said_lying (lying.Symbol (Tfci2 n)) = (TFCI2, n)
said_lying (lying.Symbol (Tpc n)) = (TPC, n)

-- the answer that `at` must give
unfoldable pub at_answer : ℕ → Direction → ℕ → ℕ → ℕ → ℕ → Answer (Part × ℕ)
at_answer burst direction factor tfci tpc chip =
    answer (first_of (at_refusals burst direction factor tfci tpc chip)) (lies_at burst direction factor tfci tpc chip)

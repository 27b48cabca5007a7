-- What the two calls of document 01's "Training sequences" answer, for all inputs: their refusals and their outcomes.
-- Cited by the promises of midamble_chip and midamble, and by the crate signal_card. Assumes nothing.
use Rattle.std.specs.Prelude.{List, [], ◌∷◌, ◌++◌, ℕ, drop}
use Rattle.conditions.specs.Conditions.{bad_midamble_chip, too_short}
use Rattle.tables.specs.Tables.{user_refusals}
use Rattle.refusals.specs.Refusals.{Answer, Outcome, Refusals, first_of, answer, after, ◌leaving◌}
use Rattle.midambles.specs.TrainingSequences.{chip_of, chips_of}
use Rattle.codes.specs.Codes.{code_of}

-- "one midamble chip 1 to 4 and 10, a whole midamble 1 to 4 and 11"
unfoldable pub chip_refusals : ℕ → ℕ → ℕ → ℕ → ℕ → Refusals
chip_refusals cell burst count user i = user_refusals cell burst count user ++ ((10, bad_midamble_chip (code_of burst).length i) ∷ [])

unfoldable pub midamble_refusals : ℕ → ℕ → ℕ → ℕ → List ℕ → Refusals
midamble_refusals cell burst count user out = user_refusals cell burst count user ++ ((11, too_short (code_of burst).length out) ∷ [])

-- the answer for one chip: its power of j
unfoldable pub chip_answer : ℕ → ℕ → ℕ → ℕ → ℕ → Answer ℕ
chip_answer cell burst count user i = answer (first_of (chip_refusals cell burst count user i)) (chip_of cell burst user i)

-- the outcome for a whole midamble: how many bytes were written; the chips, then every further byte as it was
unfoldable pub midamble_outcome : ℕ → ℕ → ℕ → ℕ → List ℕ → Outcome ℕ (List ℕ)
midamble_outcome cell burst count user out =
    let n = first_of (midamble_refusals cell burst count user out) in
    answer n (code_of burst).length leaving after n out (chips_of cell burst user ++ drop (code_of burst).length out)

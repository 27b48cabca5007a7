-- What the two calls of document 02's C-12 answer, for all inputs: their refusals and their outcomes.
-- Cited by the promises of pair and pairs. Assumes nothing.
use Rattle.std.specs.Prelude.{List, [], ◌∷◌, ◌++◌, ℕ, ◌*◌, drop, Float}
use Rattle.conditions.specs.Conditions.{too_short, bad_level}
use Rattle.tables.specs.Tables.{user_refusals}
use Rattle.refusals.specs.Refusals.{Answer, Outcome, Refusals, first_of, answer, after, ◌leaving◌}
use Rattle.codes.specs.Codes.{code_of}
use Rattle.midambles.specs.TrainingSequences.{chip_of, chips_of}
use Rattle.midambles.specs.Calls.{chip_refusals}
use Rattle.signal_card.specs.declared.ComplexChip.{ComplexChip}
use Rattle.signal_card.specs.SignalCard.{real_of, imaginary_of, floats_of}

-- one chip: those of document 01's chip, and "22 for another level, last in order"
unfoldable pub pair_refusals : ℕ → ℕ → ℕ → ℕ → ℕ → ℕ → Refusals
pair_refusals cell burst count user i a = chip_refusals cell burst count user i ++ ((22, bad_level a) ∷ [])

-- the answer: "any chip of any user as a pair, real part and imaginary part"
unfoldable pub pair_answer : ℕ → ℕ → ℕ → ℕ → ℕ → ℕ → Answer (Float × Float)
pair_answer cell burst count user i a =
    let p = chip_of cell burst user i in
    answer (first_of (pair_refusals cell burst count user i a)) (real_of a p, imaginary_of a p)

-- what a chip's struct means
abbrev pub parts_of : ComplexChip → Float × Float
parts_of c = (c.re, c.im)

-- a whole midamble: two floats for each chip, and 22 last
unfoldable pub pairs_refusals : ℕ → ℕ → ℕ → ℕ → ℕ → List Float → Refusals
pairs_refusals cell burst count user a out =
    user_refusals cell burst count user ++ ((11, too_short (2 * (code_of burst).length) out) ∷ (22, bad_level a) ∷ [])

-- the outcome: how many floats were written; "fill a lent row with the whole midamble, real then imaginary", then every further float as it was
unfoldable pub pairs_outcome : ℕ → ℕ → ℕ → ℕ → ℕ → List Float → Outcome ℕ (List Float)
pairs_outcome cell burst count user a out =
    let n = first_of (pairs_refusals cell burst count user a out) in
    let floats = 2 * (code_of burst).length in
    answer n floats leaving after n out (floats_of a (chips_of cell burst user) ++ drop floats out)

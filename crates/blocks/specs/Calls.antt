-- What the two calls of document 02's C-15 answer, for all inputs: their refusals and their outcomes.
-- Cited by the promises of start, check_place and block, and by the crates facts, mqarbset and lesson_replies. Assumes nothing.
use Rattle.std.specs.Prelude.{List, [], ◌∷◌, ◌++◌, ℕ, length, drop}
use Rattle.conditions.specs.Conditions.{bad_place}
use Rattle.tables.specs.Tables.{user_refusals}
use Rattle.refusals.specs.Refusals.{Answer, Outcome, Refusals, first_of, answer, after, ◌leaving◌}
use Rattle.codes.specs.Codes.{code_of}
use Rattle.blocks.specs.declared.Place.{Place}
use Rattle.blocks.specs.Blocks.{place_at, block_of, place_behind}

-- "Refusals: 1 to 4 at the start"
unfoldable pub start_answer : ℕ → ℕ → ℕ → ℕ → Answer Place
start_answer cell burst count user = answer (first_of (user_refusals cell burst count user)) (place_at cell burst count user)

-- "the same in a block .., and after those 23 where the place .. is above the midamble length"
unfoldable pub block_refusals : Place → Refusals
block_refusals p = user_refusals p.cell p.burst p.count p.user ++ ((23, bad_place (code_of p.burst).length p.written) ∷ [])

-- the outcome: "how many chips were written"; the place behind them; the chips, then every further byte as it was. "A refused block writes nothing", and its
-- place is handed back as it was
unfoldable pub block_outcome : Place → List ℕ → Outcome ℕ (Place × List ℕ)
block_outcome p out =
    let n = first_of (block_refusals p) in
    let chips = block_of p out in
    answer n (length chips) leaving after n (p, out) (place_behind p (length chips), chips ++ drop (length chips) out)

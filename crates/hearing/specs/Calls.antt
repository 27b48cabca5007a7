-- What the call of document 02's C-18 answers, for all inputs: its refusals, what a reply means, its answer.
-- Cited by the promises of hear and mq_hear, and by the crates mqarbset_answers, lesson_replies, facts and clean_copies. Assumes nothing.
use Rattle.std.specs.Prelude.{List, [], ◌∷◌, ℕ, zero, suc, ◌*◌, Float}
use Rattle.codes.specs.Codes.{code_of, permitted}
use Rattle.conditions.specs.Conditions.{bad_cell, bad_type, bad_count, too_short}
use Rattle.refusals.specs.Refusals.{Answer, Refusals, first_of, answer}
use Rattle.signal_card.specs.SignalCard.{f32_of}
use Rattle.samples.specs.Samples.{bad_samples}
use Rattle.hearing.specs.declared.Heard.{Heard as Reply}
use Rattle.hearing.specs.declared.Heard.TheVariants as reply
use Rattle.correlation.specs.Correlation.{real_sum, imaginary_sum}
use Rattle.hearing.specs.Hearing.{strength, loudest}

-- "Refusals: 1 to 3 and 11, then 24 for a sample outside the rule"; two floats for each chip are read
unfoldable pub hear_refusals : ℕ → ℕ → ℕ → List Float → Refusals
hear_refusals cell burst count row =
    (1, bad_cell cell) ∷
    (2, bad_type burst) ∷
    (3, bad_count burst count) ∷
    (11, too_short (2 * (code_of burst).length) row) ∷
    (24, bad_samples (2 * (code_of burst).length) row) ∷ []

-- "The reply is either nobody, or a user with the two sums as floats"
pub data Heard : Type 0 where
  nobody : Heard
  somebody : ℕ → Float → Float → Heard

-- what a reply means
abbrev pub heard_meant : Reply → Heard
heard_meant reply.Nobody = nobody
heard_meant (reply.User k re im) = somebody k re im

-- of user k, 0 standing for nobody: the f32 of a sum is that sum, and of zero plain zero (floats/proofs/Whole.antt)
unfoldable pub heard_of : ℕ → ℕ → List Float → ℕ → Heard
heard_of cell burst row zero = nobody
heard_of cell burst row (suc k) = somebody (suc k) (f32_of (real_sum cell burst row (suc k))) (f32_of (imaginary_sum cell burst row (suc k)))

-- who is heard of the users that the count permits, none of them above K = 2K'
unfoldable pub who_is_heard : ℕ → ℕ → ℕ → List Float → ℕ
who_is_heard cell burst count row = loudest (permitted (code_of burst) count) (strength cell burst row) (2 * (code_of burst).base)

-- the answer
unfoldable pub hear_answer : ℕ → ℕ → ℕ → List Float → Answer Heard
hear_answer cell burst count row =
    answer (first_of (hear_refusals cell burst count row)) (heard_of cell burst row (who_is_heard cell burst count row))

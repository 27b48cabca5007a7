-- How an answer of document 01 or 02 is written over C, and how a C caller reads it. Cited by the promises of the exports.
-- Assumes nothing.
use Rattle.std.specs.Prelude.{cond, ℕ, eqb}
use Rattle.refusals.specs.Refusals.{Answer, Outcome, refused, answered, ◌leaving◌}
use Rattle.mqarbset_answers.specs.declared.MqAnswer.{MqAnswer}

-- an answer as the struct: a refusal comes with the value 0, a value with the refusal 0
unfoldable pub answer_as_c : Answer ℕ → MqAnswer
answer_as_c (refused n) = record { refusal = n; value = 0 }
answer_as_c (answered v) = record { refusal = 0; value = v }

-- an outcome as the struct, and the lent memory afterwards
unfoldable pub outcome_as_c : {M : Type 0} → Outcome ℕ M → MqAnswer × M
outcome_as_c (a leaving m) = (answer_as_c a, m)

-- what a C caller reads: 0 is nobody's refusal number, so it says that the value is the answer
unfoldable pub answer_in_c : MqAnswer → Answer ℕ
answer_in_c r = cond (eqb r.refusal 0) (answered r.value) (refused r.refusal)

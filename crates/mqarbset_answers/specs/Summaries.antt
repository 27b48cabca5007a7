-- How a summary is written over C, and how a C caller reads it. Cited by the promise of mq_summary_value.
-- Assumes nothing.
use Rattle.std.specs.Prelude.{cond, ℕ, eqb, Option, None, Some}
use Rattle.refusals.specs.Refusals.{Answer, refused, answered}
use Rattle.conditions.specs.declared.Direction.{Direction}
use Rattle.conditions.specs.declared.Direction.TheVariants.{Up, Down}
use Rattle.slots.specs.Slots.{way_number}
use Rattle.summaries.specs.declared.Glance.{Glance}
use Rattle.mqarbset_answers.specs.declared.at_a_glance.MqSummary.{MqSummary}

-- the pattern, the direction (0 up, 1 down, 2 none) and the number; refused, all are 0
unfoldable pub summary_as_c : Answer Glance → MqSummary
summary_as_c (refused n) = record { refusal = n; leaves = 0; direction = 0; count = 0 }
summary_as_c (answered g) = record { refusal = 0; leaves = g.leaves; direction = way_number g.way; count = g.count }

-- ---- what a C caller reads: 0 is nobody's refusal number

unfoldable pub way_of : ℕ → Option Direction
way_of d = cond (eqb d 0) (Some Up) (cond (eqb d 1) (Some Down) None)

unfoldable pub summary_in_c : MqSummary → Answer Glance
summary_in_c r = cond (eqb r.refusal 0) (answered (record { leaves = r.leaves; way = way_of r.direction; count = r.count })) (refused r.refusal)

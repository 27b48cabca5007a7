-- How a place in a midamble and the answers about blocks are written over C, and how a C caller reads them. Cited by the promises of mq_block_start and mq_block_value.
-- Assumes nothing.
use Rattle.std.specs.Prelude.{cond, List, ℕ, eqb}
use Rattle.refusals.specs.Refusals.{Answer, Outcome, refused, answered, ◌leaving◌}
use Rattle.blocks.specs.declared.Place.{Place}
use Rattle.mqarbset_answers.specs.declared.by_block.MqBlockPlace.{MqBlockPlace}
use Rattle.mqarbset_answers.specs.declared.by_block.MqBlockStart.{MqBlockStart}
use Rattle.mqarbset_answers.specs.declared.by_block.MqBlock.{MqBlock}

-- a place as the caller holds it, and the place that a caller's struct is
unfoldable pub place_as_held : Place → MqBlockPlace
place_as_held p = record { cell = p.cell; burst = p.burst; count = p.count; user = p.user; written = p.written }

unfoldable pub held_as_place : MqBlockPlace → Place
held_as_place p = record { cell = p.cell; burst = p.burst; count = p.count; user = p.user; written = p.written }

-- where a midamble starts; refused, every number of the place is 0
unfoldable pub start_as_c : Answer Place → MqBlockStart
start_as_c (refused n) = record { refusal = n; place = record { cell = 0; burst = 0; count = 0; user = 0; written = 0 } }
start_as_c (answered p) = record { refusal = 0; place = place_as_held p }

-- how many chips were written, refused 0, and the place that is handed back
unfoldable pub block_as_c : Answer ℕ → Place → MqBlock
block_as_c (refused n) p = record { refusal = n; written = 0; place = place_as_held p }
block_as_c (answered m) p = record { refusal = 0; written = m; place = place_as_held p }

-- an outcome as the struct, and the lent memory afterwards
unfoldable pub block_outcome_as_c : Outcome ℕ (Place × List ℕ) → MqBlock × List ℕ
block_outcome_as_c (a leaving m) = (block_as_c a m.0, m.1)

-- ---- what a C caller reads: 0 is nobody's refusal number

unfoldable pub start_in_c : MqBlockStart → Answer Place
start_in_c r = cond (eqb r.refusal 0) (answered (held_as_place r.place)) (refused r.refusal)

unfoldable pub block_in_c : MqBlock × List ℕ → Outcome ℕ (Place × List ℕ)
block_in_c r = cond (eqb r.0.refusal 0) (answered r.0.written) (refused r.0.refusal) leaving (held_as_place r.0.place, r.1)

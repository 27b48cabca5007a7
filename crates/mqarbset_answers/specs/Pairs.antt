-- How a chip for the signal card is written over C. Cited by the promise of mq_pair.
-- Assumes nothing.
use Rattle.std.specs.Prelude.{cond, eqb, pos, Float}
use Rattle.refusals.specs.Refusals.{Answer, refused, answered}
use Rattle.signal_card.specs.SignalCard.{f32_of}
use Rattle.mqarbset_answers.specs.declared.pairs.MqPair.{MqPair}

-- the real part and the imaginary part; refused, both are plain zero
unfoldable pub pair_as_c : Answer (Float × Float) → MqPair
pair_as_c (refused n) = record { refusal = n; re = f32_of (pos 0); im = f32_of (pos 0) }
pair_as_c (answered q) = record { refusal = 0; re = q.0; im = q.1 }

-- what a C caller reads: 0 is nobody's refusal number
unfoldable pub pair_in_c : MqPair → Answer (Float × Float)
pair_in_c r = cond (eqb r.refusal 0) (answered (r.re, r.im)) (refused r.refusal)

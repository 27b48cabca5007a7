-- How the answer about who is on the air is written over C. Cited by the promise of mq_hear.
-- Assumes nothing.
use Rattle.std.specs.Prelude.{cond, eqb, pos}
use Rattle.refusals.specs.Refusals.{Answer, refused, answered}
use Rattle.signal_card.specs.SignalCard.{f32_of}
use Rattle.hearing.specs.Calls.{Heard, nobody, somebody}
use Rattle.mqarbset_answers.specs.declared.air.MqHear.{MqHear}

-- the user and the two sums; nobody is user 0, and then, as where it is refused, both are plain zero
unfoldable pub heard_as_c : Answer Heard → MqHear
heard_as_c (refused n) = record { refusal = n; user = 0; re = f32_of (pos 0); im = f32_of (pos 0) }
heard_as_c (answered nobody) = record { refusal = 0; user = 0; re = f32_of (pos 0); im = f32_of (pos 0) }
heard_as_c (answered (somebody k re im)) = record { refusal = 0; user = k; re = re; im = im }

-- what a C caller reads: 0 is no refusal's number, and no user's
unfoldable pub heard_in_c : MqHear → Answer Heard
heard_in_c r = cond (eqb r.refusal 0) (answered (cond (eqb r.user 0) nobody (somebody r.user r.re r.im))) (refused r.refusal)

-- How the answers about paging bits are written over C. Cited by the promises of mq_indicator and mq_owner.
-- Assumes nothing.
use Rattle.std.specs.Prelude.{cond, eqb}
use Rattle.refusals.specs.Refusals.{Answer, refused, answered}
use Rattle.paging.specs.Paging.{Place, place, ◌bitsFrom◌, Owner, reserved, owned}
use Rattle.mqarbset_answers.specs.declared.pages.MqIndicator.{MqIndicator}
use Rattle.mqarbset_answers.specs.declared.pages.MqOwner.{MqOwner}

-- frame, q, where the two runs of carrying bits start, and how long each is
unfoldable pub indicator_as_c : Answer Place → MqIndicator
indicator_as_c (refused n) = record { refusal = n; frame = 0; q = 0; first = 0; second = 0; length = 0 }
indicator_as_c (answered (place frame q (L bitsFrom a) (M bitsFrom b))) = record { refusal = 0; frame = frame; q = q; first = a; second = b; length = L }

unfoldable pub owner_as_c : Answer Owner → MqOwner
owner_as_c (refused n) = record { refusal = n; reserved = 0; q = 0 }
owner_as_c (answered reserved) = record { refusal = 0; reserved = 1; q = 0 }
owner_as_c (answered (owned q)) = record { refusal = 0; reserved = 0; q = q }

-- ---- what a C caller reads: 0 is nobody's refusal number

unfoldable pub indicator_in_c : MqIndicator → Answer Place
indicator_in_c r =
    cond (eqb r.refusal 0) (answered (place r.frame r.q (r.length bitsFrom r.first) (r.length bitsFrom r.second))) (refused r.refusal)

unfoldable pub owner_in_c : MqOwner → Answer Owner
owner_in_c r = cond (eqb r.refusal 0) (answered (cond (eqb r.reserved 1) reserved (owned r.q))) (refused r.refusal)

-- `lesson_replies::beacon_calls::beacon` meets its promise: one timeslot or two.
-- Assumes nothing.
use Rattle.std.proofs.Common.{ap}
use Rattle.beacons.specs.Calls.{said_beacons}
use Rattle.lesson_replies.specs.Replies.{beacon_reply, beacon_asked}
use Rattle.lesson_replies.proofs.Replied.{made_of, passed_on}
use Rattle.lesson_replies.proofs.beacon_calls.beacon.Goals as goal

pub returns-in_err-t : goal.returns-in_err-t
unfolding beacon_reply beacon_asked
returns-in_err-t c = passed_on _ _ c.from_residual.ensures.1 (ap beacon_reply c.in_err-t.ensures)

pub returns-in-One : goal.returns-in-One
unfolding beacon_reply beacon_asked
returns-in-One c = made_of beacon_reply said_beacons c.in-One.is c.in_ok-t.ensures

pub returns-in-Two : goal.returns-in-Two
unfolding beacon_reply beacon_asked
returns-in-Two c = made_of beacon_reply said_beacons c.in-Two.is c.in_ok-t.ensures

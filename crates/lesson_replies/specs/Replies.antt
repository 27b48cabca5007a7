-- docs/LESSONS.md, its table: the reply to a call that is answered in numbers, and the numbers in it; and what blocks, the calls for the signal card and `hear` answer, before it is written as a line. Cited by the promises here. Assumes nothing.
use Rattle.std.specs.Prelude.{ℕ, cond, List, length, nat_eq, nat_lt, slice_index, Float}
use Rattle.refusals.specs.Refusals.{Answer, Outcome, refused, answered}
use Rattle.midambles.specs.Calls.{chip_answer}
use Rattle.blocks.specs.declared.Place.{Place}
use Rattle.blocks.specs.Calls.{block_outcome}
use Rattle.signal_card.specs.Calls.{pair_answer, pairs_outcome}
use Rattle.hearing.specs.Calls.{Heard, hear_answer}
use Rattle.beacons.specs.Calls.{beacon_answer}
use Rattle.paging.specs.Paging.{Owner, reserved, owned}
use Rattle.paging.specs.Calls.{owner_answer}
use Rattle.timeslots.specs.Timeslots.{Part, DATA1, TFCI1, MIDAMBLE, TPC, TFCI2, DATA2, GUARD}
use Rattle.timeslots.specs.Calls.{said_lying, at_answer}
use Rattle.timeslots.specs.declared.Symbol.{Symbol}
use Rattle.timeslots.specs.declared.Lying.TheVariants as lying
use Rattle.lesson_words.specs.declared.numbers.Values.{Values}
use Rattle.lesson_words.specs.Numbers.{direction_by}
use Rattle.lesson_replies.specs.declared.replies.Reply.{Reply}
use Rattle.lesson_replies.specs.declared.replies.Reply.TheVariants as reply

-- "`chip P`"
unfoldable pub chip_reply : Answer ℕ → Answer Reply
chip_reply (refused n) = refused n
chip_reply (answered p) = answered (reply.Chip p)

-- "`beacon` and one or two timeslots"
unfoldable pub beacon_reply : Answer (List ℕ) → Answer Reply
beacon_reply (refused n) = refused n
beacon_reply (answered l) = answered (cond (nat_eq (length l) 1) (reply.Beacon (slice_index l 0)) (reply.Beacons (slice_index l 0) (slice_index l 1)))

-- "`q Y` or `reserved`"
unfoldable pub owner_reply : Answer Owner → Answer Reply
owner_reply (refused n) = refused n
owner_reply (answered reserved) = answered reply.Reserved
owner_reply (answered (owned q)) = answered (reply.Owned q)

-- "`data1 N`, `tfci1 N`, `midamble N`, `tpc N`, `tfci2 N`, `data2 N` or `guard N`"
unfoldable pub part_reply : Part → ℕ → Reply
part_reply DATA1 n = reply.Data1 n
part_reply TFCI1 n = reply.Tfci1 n
part_reply MIDAMBLE n = reply.Midamble n
part_reply TPC n = reply.Tpc n
part_reply TFCI2 n = reply.Tfci2 n
part_reply DATA2 n = reply.Data2 n
part_reply GUARD n = reply.Guard n

unfoldable pub at_reply : Answer (Part × ℕ) → Answer Reply
at_reply (refused n) = refused n
at_reply (answered x) = answered (part_reply x.0 x.1)

-- of data and control, which carry their part
unfoldable pub symbol_reply : Symbol → Reply
symbol_reply s = part_reply (said_lying (lying.Symbol s)).0 (said_lying (lying.Symbol s)).1

-- what the words of a line ask for: "`chip CELL TYPE COUNT USER I`"
unfoldable pub chip_asked : Values → Answer Reply
chip_asked v = chip_reply (chip_answer v.first v.second v.third v.fourth v.fifth)

-- "LENGTH is how many bytes are lent, any number (of more than 512 the program lends 512 ..)": the room for a midamble's chips
unfoldable pub bytes_lent : ℕ → ℕ → ℕ
bytes_lent n room = cond (nat_lt room n) room n

-- "`block CELL TYPE COUNT USER PLACE LENGTH`", before it is written as a line, into the bytes that are lent
unfoldable pub block_asked : Values → List ℕ → Outcome ℕ (Place × List ℕ)
block_asked v out = block_outcome (record { cell = v.first; burst = v.second; count = v.third; user = v.fourth; written = v.fifth }) out

-- "`pair CELL TYPE COUNT USER I LEVEL`", before it is written as a line
unfoldable pub pair_asked : Values → Answer (Float × Float)
pair_asked v = pair_answer v.first v.second v.third v.fourth v.fifth v.sixth

-- "`pairs CELL TYPE COUNT USER LEVEL`", likewise, into a row
unfoldable pub pairs_asked : Values → List Float → Outcome ℕ (List Float)
pairs_asked v row = pairs_outcome v.first v.second v.third v.fourth v.fifth row

-- "`hear CELL TYPE COUNT SAMPLE ..`", likewise: the three numbers, and the row of samples
unfoldable pub hear_asked : Values → List Float → Answer Heard
hear_asked v row = hear_answer v.first v.second v.third row

-- "`beacon CASE K`"
unfoldable pub beacon_asked : Values → Answer Reply
beacon_asked v = beacon_reply (beacon_answer v.first v.second)

-- "`owner TYPE L BIT`"
unfoldable pub owner_asked : Values → Answer Reply
owner_asked v = owner_reply (owner_answer v.first v.second v.third)

-- "`at TYPE up|down FACTOR TFCI TPC CHIP`"
unfoldable pub at_asked : Values → Answer Reply
at_asked v = at_reply (at_answer v.first (direction_by v.second) v.third v.fourth v.fifth v.sixth)

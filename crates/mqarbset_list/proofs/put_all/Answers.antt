-- `mqarbset_list::put_all` meets its promise: a record a turn.
-- Assumes nothing.
use mathlib.Core.Path.{◌≡◌, refl, ap, ◌∙◌}
use mathlib.Core.List.{List, ◌++◌}
use Prim.Native.Nat.{ℕ, ◌*◌}
use native.Mathlib.Nat.{le_antisymm}
use native.Mathlib.Omega.{arith}
use lib.ListN.{length, take, drop}
use lib.Seq.{take_all}
use Rattle.std.proofs.lemmas.Slice.{put_mid-paste}
use Rattle.bookings.specs.declared.Booking.{Booking}
use Rattle.mqarbset_list.specs.Records.{record_of, records_of}
use Rattle.mqarbset_list.proofs.Listed.{records_turn}
use Rattle.mqarbset_list.proofs.put_all.Goals as goal

pub loop-i-init : goal.loop-i-init
unfolding records_of
loop-i-init c = refl

pub loop-i-preserved : goal.loop-i-preserved
unfolding record_of
loop-i-preserved c =
    let l = c.loop-i in
    let eight : length c.record_of.result ≡ 8 = ap length c.record_of.ensures in
    records_turn c.args.row.now l.i _ c.args.out.now l.out _ c.record_of.result c.loop-i-test.true l.invariant c.record_of.ensures
    (put_mid-paste (8 * l.i) _ l.out _ _ 8 c.copy_from_slice.ensures.after (omega arith) (omega arith))

pub returns : goal.returns
returns c =
    let l = c.loop-i in
    let row = c.args.row.now in
    let all : l.i ≡ length row = le_antisymm l.auto.i-end c.loop-i-test.false in
    l.invariant
    ∙ ap (λ (k : ℕ). records_of (take k row) ++ drop (8 * k) c.args.out.now) all
    ∙ ap (λ (r : List Booking). records_of r ++ drop (8 * length row) c.args.out.now) (take_all (length row) row (omega arith))

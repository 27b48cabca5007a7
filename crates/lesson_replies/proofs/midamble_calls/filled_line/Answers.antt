-- `lesson_replies::midamble_calls::filled_line`: no more is lent than there is room.
-- Assumes nothing.
use Rattle.std.proofs.Common.{length, sym, arith, length-take-le}
use Rattle.lesson_replies.proofs.Lent.{lent_fits}
use Rattle.lesson_replies.proofs.midamble_calls.filled_line.Goals as goal

pub slice_bounds-filled-end : goal.slice_bounds-filled-end
slice_bounds-filled-end g c = omega (arith, c.bytes_lent-lent.ensures, lent_fits c.args.v.sixth (length c.args.chips.now))

pub slice_bounds-filled-end-2 : goal.slice_bounds-filled-end-2
slice_bounds-filled-end-2 g c =
    sym (length-take-le _ _ (omega (arith, c.bytes_lent-lent.ensures, lent_fits c.args.v.sixth (length c.args.chips.now))))

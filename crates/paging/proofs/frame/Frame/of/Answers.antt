-- `paging::frame::Frame::of` meets its contract: a length that is not refused fills a half with whole runs.
-- Assumes nothing.
use mathlib.Core.Path.{sym}
use native.Mathlib.Nat.{div-le_self}
use native.Mathlib.Omega.{arith}
use Rattle.paging.proofs.Passed.{fits, half_high}
use Rattle.paging.proofs.frame.Frame.of.Goals as goal

pub nonzero_div-result : goal.nonzero_div-result
nonzero_div-result c = (fits _ _ (sym c.in_ok-check_pich.ensures.table)).low

pub invariant_of-result : goal.invariant_of-result
invariant_of-result c =
    record {
      fits = rw c.half_of-half.ensures (fits _ _ (sym c.in_ok-check_pich.ensures.table));
      few = div-le_self _ _;
      small = omega (arith, c.half_of-half.ensures, half_high c.args.burst);
    }

-- `correlating::correlating_sums` meets its contract: what is turned are samples, and what they are added with are signs. Assumes nothing.
use borrow.Author.Rules.{rules}
use mathlib.Core.Path.{refl, sym, ◌∙◌}
use Prim.Native.Nat.{◌≤◌}
use native.Mathlib.Omega.{arith}
use lib.ListN.{length}
use Rattle.samples.proofs.Front.{each_sample}
use Rattle.correlation.specs.Inside.{reach}
use Rattle.correlation.proofs.RowSigns.{reach_high, are_signs}
use Rattle.correlating.proofs.correlating_sums.Goals as goal

pub fill_signs-requires : goal.fill_signs-requires
fill_signs-requires c = let near = reach_high 1 in (search rules, near)

pub turn-requires : goal.turn-requires
turn-requires c =
    let long : 1024 ≤ length c.args.row.now = search rules in
    record {
      count_bound = (omega arith, refl, search rules, search rules);
      count_in_bounds = (long, record { all = λ m h. each_sample c.args.row.now 1024 m (sym c.bad_samples.ensures ∙ c.if-bad_samples.false) long h });
    }

pub sixteen-requires : goal.sixteen-requires
sixteen-requires c =
    let turned = c.turn.ensures in
    let near = reach_high 1 in
    let signs = c.fill_signs.ensures in
    record {
      in_bounds = (search rules, search rules, search rules, search rules);
      samples = (record { all = λ m h. (turned.real m h).0 }, record { all = λ m h. (turned.imaginary m h).0 }, are_signs _ 1 (reach 1) (reach 1) _ signs (omega arith));
    }

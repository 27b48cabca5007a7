-- `elements::reading::LentRow::digit_of` meets its contract: a place beyond the row's end comes round.
-- Assumes nothing.
use mathlib.Core.Path.{ap, ◌∙◌}
use Prim.Native.Nat.{ℕ, ◌/◌, ◌%◌, ◌<◌}
use native.Mathlib.Nat.{mod-lt}
use native.Mathlib.Omega.{arith}
use lib.ListN.{get_or}
use Rattle.elements.specs.Inside.{digits_in}
use Rattle.elements.proofs.reading.LentRow.digit_of.Goals as goal

pub digit_at-requires : goal.digit_at-requires
digit_at-requires c =
    let inside : c.args.p / 4 % c.digits.result < c.digits.result = mod-lt _ (omega (arith, c.args.self.good.some)) in
    omega (arith, inside)

pub returns : goal.returns
returns c = c.digit_at.ensures ∙ ap (λ (n : ℕ). get_or (digits_in c.args.self.bytes.now) (c.args.p / 4 % n) 0) c.digits.ensures

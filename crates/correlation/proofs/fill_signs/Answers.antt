-- `correlation::fill_signs` meets its contract: the powers of a period, their signs, and the period again. Assumes nothing.
use borrow.Author.Rules.{rules}
use mathlib.Core.Path.{◌≡◌, sym, ap}
use Prim.Native.Nat.{ℕ, ◌≤◌}
use native.Mathlib.Omega.{arith}
use Rattle.codes.specs.Codes.{code_of}
use Rattle.codes.specs.declared.Code.{Code}
use Rattle.signal_card.proofs.Answers.{run_room}
use Rattle.correlation.specs.Inside.{reach}
use Rattle.correlation.proofs.RowSigns.{period_some, filled_low, signs_held}
use Rattle.correlation.proofs.fill_signs.Goals as goal

-- the period of a code that was fetched
period-is : (burst : ℕ) (d : Code) → d ≡ code_of burst → (d.period ≡ (code_of burst).period) × ((1 ≤ d.period) × (d.period ≤ 512))
period-is burst d e =
    let same : d.period ≡ (code_of burst).period = ap (λ (x : Code). x.period) e in
    (same, (omega (arith, (period_some burst).0), omega (arith, (period_some burst).1)))

pub fill_elements-requires : goal.fill_elements-requires
fill_elements-requires c =
    let few = period-is c.args.burst c.code_of-code.result c.code_of-code.ensures in
    (c.requires.0, omega arith, few.1.1, few.1.1)

pub signs_of-requires : goal.signs_of-requires
signs_of-requires c =
    let code = c.code_of-code in
    let powers = c.fill_elements.ensures in record { count_in_bounds = (run_room _ _ _ _ powers, search rules); by_index = filled_low c.args.cell c.args.burst _ _ code.result.period powers }

pub repeat-requires : goal.repeat-requires
repeat-requires c =
    let code = c.code_of-code in
    let few = period-is c.args.burst code.result code.ensures in
    let long = ap (λ (x : Code). x.length) code.ensures in
    (few.1.0, omega arith, omega (arith, long, few.0, c.requires.1))

pub returns : goal.returns
returns c =
    let code = c.code_of-code in
    let few = period-is c.args.burst code.result code.ensures in
    let long = ap (λ (x : Code). x.length) code.ensures in
    signs_held c.args.cell c.args.burst code.result.period (reach c.args.burst) c.fill_elements.new.out _
    c.signs_of.new.out c.repeat.new.out (sym few.0)
    c.fill_elements.ensures
    c.signs_of.ensures
    (λ m h. c.repeat.ensures m (omega (arith, h, few.0, long)))

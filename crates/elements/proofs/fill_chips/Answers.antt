-- `elements::fill_chips` meets its contract: as many elements as a midamble of the code has chips.
-- Assumes nothing.
use mathlib.Core.Path.{ap, ◌∙◌}
use mathlib.Core.List.{[], ◌++◌}
use Prim.Native.Nat.{ℕ, ◌+◌}
use native.Mathlib.Omega.{arith}
use lib.ListN.{get_or, drop}
use Rattle.laws.specs.Runs.{run}
use Rattle.codes.specs.declared.Code.{Code}
use Rattle.codes.specs.Codes.{code_of}
use Rattle.codes.proofs.Numbers.{length_high}
use Rattle.elements.specs.Elements.{rows_of, element}
use Rattle.elements.proofs.fill_chips.Goals as goal

pub fill_elements-requires : goal.fill_elements-requires
fill_elements-requires c =
    let a = c.args in
    let same = ap (λ (x : Code). x.length) c.code_of-length.ensures in
    let q = c.requires in
    (q.0, q.1, omega (arith, same, length_high a.burst), omega (arith, same, q.2))

pub returns : goal.returns
returns c =
    let a = c.args in
    let same = ap (λ (x : Code). x.length) c.code_of-length.ensures in
    c.fill_elements.ensures
    ∙ ap (λ (n : ℕ). run (λ (i : ℕ). element (code_of a.burst).period (get_or (rows_of a.burst) a.cell []) (i + a.by)) n ++ drop n a.out.now) same

-- `elements::filling::Source::fill_piece` meets its contract: the powers of the digit's elements from the one behind `by` on are copied.
-- Assumes nothing.
use mathlib.Core.Path.{◌≡◌, sym, ap, ◌∙◌}
use mathlib.Core.List.{List, ◌++◌}
use Prim.Native.Nat.{ℕ}
use lib.ListN.{drop}
use Rattle.laws.proofs.Runs.{run_none}
use Rattle.elements.specs.Inside.{elements_after}
use Rattle.elements.proofs.Digits.{digit_low}
use Rattle.elements.proofs.Steps.{piece_of}
use Rattle.elements.proofs.filling.Source.fill_piece.Goals as goal

pub returns-then-count-eq0 : goal.returns-then-count-eq0
returns-then-count-eq0 c =
    let a = c.args in
    let none : 0 ≡ a.count = sym c.if-count-eq0.true in
    run_none _ a.out.now ∙ ap (λ (n : ℕ). elements_after a.self.now.row.bytes.now a.by n a.out.now) none

pub bounds-powers-digit : goal.bounds-powers-digit
bounds-powers-digit c = digit_low _ _ _ c.digit_of-digit.ensures

pub returns : goal.returns
returns c =
    let a = c.args in
    ap (λ (l : List ℕ). l ++ drop a.count a.out.now)
    (c.copy_from_slice.ensures.after ∙ piece_of _ a.self.now.row.good a.self.now.powers.now _ a.by a.count a.self.now.all c.digit_of-digit.ensures c.requires.0)

-- `elements::filling::Source::put_four` meets its contract: the table's entry of the digit is copied.
-- Assumes nothing.
use mathlib.Core.Path.{ap, ◌∙◌}
use mathlib.Core.List.{List, [], ◌++◌}
use Prim.Native.Nat.{ℕ}
use lib.ListN.{get_or, drop}
use Rattle.elements.proofs.Digits.{fours_at}
use Rattle.elements.proofs.filling.Source.put_four.Goals as goal

pub returns : goal.returns
returns c =
    let a = c.args in
    ap (λ (l : List ℕ). l ++ drop 4 a.out.now) (c.copy_from_slice.ensures.after ∙ ap (λ (t : List (List ℕ)). get_or t a.digit []) c.args.self.now.all ∙ fours_at 16 a.digit c.requires.0)

-- `elements::reading::LentRow::element_in` meets its contract: the row's bit at the element's place, turned by j to the power of the element.
-- Assumes nothing.
use mathlib.Core.Path.{◌≡◌, sym, ap, ◌∙◌}
use mathlib.Core.List.{List}
use Prim.Native.Nat.{ℕ, ◌-◌, ◌*◌, ◌%◌, ◌<◌, ◌≤◌}
use native.Mathlib.Omega.{arith}
use lib.ListN.{length}
use Rattle.code_text.specs.Rows.{bit_at}
use Rattle.elements.specs.Elements.{turned}
use Rattle.elements.specs.Inside.{digits_in, element_in}
use Rattle.elements.proofs.Repeats.{element_turned}
use Rattle.elements.proofs.reading.LentRow.element_in.Goals as goal

-- of the bit that was read: it is 0 or 1, and turned it is the element
bit_low : (l : List ℕ) (p bit : ℕ) → bit ≡ bit_at l p → bit < 2
unfolding bit_at
bit_low l p bit e = omega arith

turned-in : (row : List ℕ) (i bit r : ℕ) → 1 ≤ i → bit ≡ bit_at (digits_in row) ((i - 1) % (8 * length row)) → r ≡ turned i bit → r ≡ element_in row i
unfolding element_in
turned-in row i bit r low e f = f ∙ ap (turned i) e ∙ sym (element_turned (8 * length row) (digits_in row) i (omega arith) low)

pub power_of-requires : goal.power_of-requires
power_of-requires c = (c.requires.1, bit_low _ _ _ c.bit_in.ensures)

pub returns : goal.returns
returns c = turned-in _ _ _ _ (omega arith) c.bit_in.ensures c.power_of.ensures

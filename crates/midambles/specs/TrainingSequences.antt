-- Document 01, "Training sequences": the chips of a user's midamble. Cited by specs/Calls.antt and by the crates blocks and signal_card.
-- They are defined once, over the numbers of a code (crate codes); long and short codes only fill them in. Assumes nothing.
use Rattle.std.specs.Prelude.{List, [], ℕ, ◌+◌, get_or}
use Rattle.laws.specs.Runs.{run}
use Rattle.codes.specs.Codes.{code_of, shift_of}
use Rattle.elements.specs.Elements.{rows_of, element}

-- "Chip i of user k is element i + shift." Row n belongs to cell parameter n.
unfoldable pub chip_of : ℕ → ℕ → ℕ → ℕ → ℕ
chip_of cell burst k i = element (code_of burst).period (get_or (rows_of burst) cell []) (i + shift_of (code_of burst) k)

-- all chips of a user's midamble
unfoldable pub chips_of : ℕ → ℕ → ℕ → List ℕ
chips_of cell burst k = run (λ (i : ℕ). chip_of cell burst k i) (code_of burst).length

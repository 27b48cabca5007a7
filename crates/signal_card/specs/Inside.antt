-- What a private function promises. No reader of a public promise has to believe it.
-- Assumes nothing.
use Rattle.std.specs.Prelude.{List, ℕ, ◌+◌, ◌*◌, get_or, Float}
use Rattle.std.specs.Float.{nan}
use Rattle.signal_card.specs.declared.ComplexChip.{ComplexChip}

-- chip k of a row of chips, counted from 0, as the struct
unfoldable pub chip_in : List Float → ℕ → ComplexChip
chip_in row k = record { re = get_or row (2 * k) nan; im = get_or row (2 * k + 1) nan }

-- What functions of the C interface promise each other. No reader of an export's promise has to believe it. Assumes nothing.
use Rattle.std.specs.Prelude.{cond, ℕ}
use Rattle.mqarbset_book.specs.Mirror.{neither}

-- the factor beside a direction; where that is neither, 0, which is no spreading factor, so that the call is refused at 6
unfoldable pub factor_beside : ℕ → ℕ → ℕ
factor_beside direction factor = cond (neither direction) 0 factor

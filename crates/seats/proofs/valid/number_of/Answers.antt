-- `seats::valid::number_of` meets its contract: its numbers are 0 where they are 0 as one number.
-- Assumes nothing.
use native.Mathlib.Omega.{arith}
use Rattle.seats.proofs.Blanks.{blank_told, flag_low}
use Rattle.seats.proofs.valid.number_of.Goals as goal

pub overflow_add-result-2 : goal.overflow_add-result-2
overflow_add-result-2 c = omega (arith, flag_low c.is_down-down.result)

pub overflow_mul-result-3 : goal.overflow_mul-result-3
overflow_mul-result-3 c = omega (arith, flag_low c.is_down-down.result)

pub overflow_add-result-3 : goal.overflow_add-result-3
overflow_add-result-3 c = omega (arith, flag_low c.is_down-down.result)

pub returns : goal.returns
returns c = blank_told _ _ c.is_down-down.ensures

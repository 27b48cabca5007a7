-- What the private functions of this crate promise: the same as specs/Hearing.antt and specs/Calls.antt say, of turned samples and signs. No reader of a public promise has to believe it.
-- Assumes nothing.
use Rattle.std.specs.Prelude.{List, ℕ, zero, suc, ◌+◌, ◌*◌, ℤ, pos, nat_abs, Float}
use Rattle.std.specs.Float.{binary32}
use Rattle.std.specs.Float.Ieee.{of_int}
use Rattle.codes.specs.Codes.{code_of, shift_of, permitted}
use Rattle.correlation.specs.Inside.{turned_back, dot_of}
use Rattle.hearing.specs.Hearing.{loudest}
use Rattle.hearing.specs.Calls.{Heard, nobody, somebody}

abbrev pub square : ℤ → ℕ
square z = nat_abs z * nat_abs z

-- a user's two sums
unfoldable pub sums_in : List Float → List Float → List Float → ℕ → ℕ → ℤ × ℤ
sums_in re im signs burst user =
    let by = shift_of (code_of burst) user in
    let n = (code_of burst).length in
    turned_back by (dot_of re signs by n, dot_of im signs by n)

-- those of user k, 0 standing for nobody
unfoldable pub sums_at : List Float → List Float → List Float → ℕ → ℕ → ℤ × ℤ
sums_at re im signs burst zero = (pos 0, pos 0)
sums_at re im signs burst (suc k) = sums_in re im signs burst (suc k)

unfoldable pub strength_in : List Float → List Float → List Float → ℕ → ℕ → ℕ
strength_in re im signs burst k = square (sums_at re im signs burst k).0 + square (sums_at re im signs burst k).1

abbrev pub loudest_in : List Float → List Float → List Float → ℕ → ℕ → ℕ → ℕ
loudest_in re im signs burst count k = loudest (permitted (code_of burst) count) (strength_in re im signs burst) k

-- user k with two sums as floats, 0 standing for nobody
unfoldable pub heard_as : ℕ → Float → Float → Heard
heard_as zero re im = nobody
heard_as (suc k) re im = somebody (suc k) re im

abbrev pub heard_in : List Float → List Float → List Float → ℕ → ℕ → Heard
heard_in re im signs burst k = heard_as k (of_int binary32 (sums_at re im signs burst k).0) (of_int binary32 (sums_at re im signs burst k).1)

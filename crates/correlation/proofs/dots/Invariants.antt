-- `correlation::dots` meets its contract: before each turn every column has the float of its own whole-number sum; then these are added. Assumes nothing.
use mathlib.Core.Path.{◌≡◌}
use mathlib.Core.List.{List}
use Prim.Native.Nat.{ℕ, ◌+◌, ◌<◌}
use lib.ListN.{length, get_or}
use lib.Ieee.{Float, nan, binary32, of_int}
use Rattle.sums.proofs.Totals.{column}
use Rattle.correlation.specs.Inside.{term}
use Rattle.correlation.proofs.Columns.{Some}
use Rattle.correlation.proofs.dots.Given as goal

-- ---- 32 columns of the floats of z: with so many rows, and with one more in those before l
abbrev pub Columns : List Float → List Float → ℕ → ℕ → List Float → Type 0
Columns z b by t columns = (length columns ≡ 32) × ((k : ℕ) → k < 32 → get_or columns k nan ≡ of_int binary32 (column 32 (term z b by) k t))

abbrev pub More : List Float → List Float → ℕ → ℕ → ℕ → List Float → Type 0
More z b by t l columns = (length columns ≡ 32) × Some columns (λ k. column 32 (term z b by) k t) (λ k. column 32 (term z b by) k (t + 1)) l

abbrev pub invariant-loop-l : goal.invariant-loop-l
invariant-loop-l l = More l.x l.b l.by l.t l.l l.real × More l.y l.b l.by l.t l.l l.imaginary

abbrev pub invariant-loop-t : goal.invariant-loop-t
invariant-loop-t l = Columns l.x l.b l.by l.t l.real × Columns l.y l.b l.by l.t l.imaginary

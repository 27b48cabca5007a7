-- `correlation::halve` meets its contract: the columns before k have their other half, the others are as they were. Assumes nothing.
use mathlib.Core.Path.{◌≡◌}
use Prim.Native.Nat.{ℕ, ◌+◌, ◌≤◌, ◌<◌}
use lib.ListN.{length, get_or}
use lib.IntN.{◌+ℤ◌}
use lib.Ieee.{nan, binary32, of_int}
use Rattle.samples.specs.Samples.{sample_of}
use Rattle.correlation.proofs.halve.Given as goal

abbrev pub invariant-loop-k : goal.invariant-loop-k
invariant-loop-k l =
    (length l.columns ≡ length l.initial.columns)
    × ((j : ℕ) → j < l.k → get_or l.columns j nan ≡ of_int binary32 (sample_of (get_or l.initial.columns j nan) +ℤ sample_of (get_or l.initial.columns (j + l.half) nan)))
    × ((j : ℕ) → l.k ≤ j → get_or l.columns j nan ≡ get_or l.initial.columns j nan)

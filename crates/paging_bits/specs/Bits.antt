-- Document 01, "Paging bits (clause 5.3.7)", of one frame's bits, written and read: L is the length of an indicator's runs, N how many indicators a frame holds,
-- H half the carrying bits, q an indicator. Cited by the promises of `paging_bits` and of `paging`. Assumes nothing.
use Rattle.std.specs.Prelude.{cond, List, [], ◌++◌, ℕ, zero, suc, ◌+◌, ◌-◌, ◌*◌, ◌/◌, eqb, ltb, get_or, replicate}
use Rattle.laws.specs.Runs.{run}

-- "four more are reserved", between the halves: "244 or 276"
abbrev pub bits_in : ℕ → ℕ
bits_in H = H + 4 + H

-- N, how many a timeslot holds: each takes L bits of each half
abbrev pub per_frame : ℕ → ℕ → ℕ
per_frame L H = H / L

-- "0 off, any other on"; "a byte other than 0 is 1"
unfoldable pub as_bit : ℕ → ℕ
as_bit v = cond (eqb v 0) 0 1

-- "all 1 if on, all 0 if off": for q = 0 .. N - 1 a run of L bits, one behind the other
unfoldable pub runs_of : ℕ → List ℕ → ℕ → List ℕ
runs_of L settings zero = []
runs_of L settings (suc q) = runs_of L settings q ++ replicate L (as_bit (get_or settings q 0))

-- "In time order the burst is: first half of the carrying bits, reserved 0 and 1, midamble, reserved 2 and 3, second half"; reserved bits are "written 0"
unfoldable pub burst_of : ℕ → ℕ → List ℕ → List ℕ
burst_of L N settings = runs_of L settings N ++ replicate 4 0 ++ runs_of L settings N

-- "Its bits, counted from 0 among the carrying bits, are L bits from Lq, and L bits from half the carrying bits plus Lq"
abbrev pub first_run : ℕ → ℕ → ℕ
first_run L q = L * q

abbrev pub second_run : ℕ → ℕ → ℕ → ℕ
second_run L H q = H + L * q

-- the place in time order of carrying bit b: the four reserved bits stand before the second half
unfoldable pub in_time : ℕ → ℕ → ℕ
in_time H b = cond (ltb b H) b (b + 4)

-- how many of the n bits from place a are 1
unfoldable pub ones_from : List ℕ → ℕ → ℕ → ℕ
ones_from bits a zero = 0
ones_from bits a (suc n) = ones_from bits a n + as_bit (get_or bits (a + n) 0)

-- "0 off, 1 on, or 2 torn where its bits differ": of n bits that many are 1
unfoldable pub heard : ℕ → ℕ → ℕ
heard ones n = cond (eqb ones 0) 0 (cond (eqb ones n) 1 2)

-- the reading of indicator q: its L bits in each half
unfoldable pub reading_of : ℕ → ℕ → List ℕ → ℕ → ℕ
reading_of L H bits q = heard (ones_from bits (in_time H (first_run L q)) L + ones_from bits (in_time H (second_run L H q)) L) (2 * L)

-- "Reading writes one byte for each q"
unfoldable pub readings_of : ℕ → ℕ → ℕ → List ℕ → List ℕ
readings_of L N H bits = run (λ (i : ℕ). reading_of L H bits (i - 1)) N

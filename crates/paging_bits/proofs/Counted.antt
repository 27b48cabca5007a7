-- How many bits of a run are 1, where an indicator's runs lie in time order, and a turn of the loop that writes the readings. Cited by the proofs of the functions that read.
-- Assumes nothing.
use mathlib.Core.Path.{◌≡◌, refl, sym, ap, ◌∙◌}
use mathlib.Core.Bool.{Bool, true, false, cond}
use mathlib.Core.List.{List, ◌++◌}
use mathlib.Core.Logic.{◌⊎◌, inl, inr, ⊎_elim}
use Prim.Native.Nat.{ℕ, zero, suc, ◌+◌, ◌-◌, ◌*◌, ◌<◌, ◌≤◌}
use native.Mathlib.Nat.{zero-add, mul_comm}
use native.Mathlib.Numerals.{add-one}
use native.Mathlib.Omega.{arith}
use lib.Dec.{eqb}
use lib.ListN.{get_or, length, set, drop}
use Rattle.std.specs.List.{between}
use Rattle.std.proofs.lemmas.List.Edits.{get_or-between}
use borrow.Author.Tests.{lt-ltb, le-ltb}
use Rattle.laws.specs.Runs.{run}
use Rattle.laws.proofs.Runs.{run_turn}
use Rattle.paging_bits.specs.Bits.{in_time, as_bit, ones_from, heard, reading_of}
use Rattle.paging_bits.specs.Inside.{Fits}
use Rattle.paging_bits.proofs.OneRun.{run_within}

-- a bit is 0 or 1
bit_cases : (b : Bool) → (◌≡◌ {A = ℕ} (cond b 0 1) 0) ⊎ (◌≡◌ {A = ℕ} (cond b 0 1) 1)
bit_cases true = inl refl
bit_cases false = inr refl

pub as_bit_cases : (v : ℕ) → (as_bit v ≡ 0) ⊎ (as_bit v ≡ 1)
unfolding as_bit
as_bit_cases v = bit_cases (eqb v 0)

pub as_bit_most : (v : ℕ) → as_bit v ≤ 1
as_bit_most v = ⊎_elim (λ (e : as_bit v ≡ 0). omega arith) (λ (e : as_bit v ≡ 1). omega arith) (as_bit_cases v)

-- a turn of the count of a whole run
pub ones_turn : (run : List ℕ) (n : ℕ) → ones_from run 0 (n + 1) ≡ ones_from run 0 n + as_bit (get_or run n 0)
unfolding ones_from
ones_turn run n = ap (λ (k : ℕ). ones_from run 0 k) (add-one n) ∙ ap (λ (k : ℕ). ones_from run 0 n + as_bit (get_or run k 0)) (zero-add n)

pub ones_most : (bits : List ℕ) (a n : ℕ) → ones_from bits a n ≤ n
unfolding ones_from
ones_most bits a zero = omega arith
ones_most bits a (suc n) = omega (arith, ones_most bits a n, as_bit_most (get_or bits (a + n) 0))

-- where a carrying bit lies in time order
pub time_first : (H b : ℕ) → b < H → in_time H b ≡ b
unfolding in_time
time_first H b h = simp (lt-ltb b H h)

pub time_second : (H b : ℕ) → in_time H (H + b) ≡ H + 4 + b
unfolding in_time
time_second H b = simp (le-ltb (H + b) H (omega arith)) (omega arith)

-- a reading counts the ones of the two runs where they lie in time order
pub reading_runs : (L H : ℕ) (bits : List ℕ) (q : ℕ) → L * q < H
    → reading_of L H bits q ≡ heard (ones_from bits (L * q) L + ones_from bits (H + 4 + L * q) L) (2 * L)
unfolding reading_of
reading_runs L H bits q h = simp (time_first H (L * q) h, time_second H (L * q))

-- the ones of a run, counted in the part of the bits that it is
ones_between : (bits : List ℕ) (a n k : ℕ) → n ≤ k → ones_from (between a (a + k) bits) 0 n ≡ ones_from bits a n
unfolding ones_from
ones_between bits a zero k h = refl
ones_between bits a (suc n) k h =
    let at : get_or (between a (a + k) bits) (0 + n) 0 ≡ get_or bits (a + n) 0 =
    ap (λ (j : ℕ). get_or (between a (a + k) bits) j 0) (zero-add n) ∙ get_or-between bits a (a + k) n 0 (omega arith) in
    ap (λ (s : ℕ). s + as_bit (get_or (between a (a + k) bits) (0 + n) 0)) (ones_between bits a n k (omega arith))
    ∙ ap (λ (v : ℕ). ones_from bits a n + as_bit v) at

-- of indicator q: what was counted in its two runs, of so many bits each, is its reading
pub counted : (L N H q n x r : ℕ) (bits : List ℕ) → Fits L N H → q < N → n ≡ L
    → x ≡ ones_from (between (q * L) (q * L + L) bits) 0 n + ones_from (between (H + 4 + q * L) (H + 4 + q * L + L) bits) 0 n → r ≡ heard x (2 * L) → r ≡ reading_of L H bits q
counted L N H q n x r bits f h size both v =
    let within : L * q + L ≤ H = omega (arith, run_within L N q h, f.whole) in
    let same : q * L ≡ L * q = mul_comm q L in
    v
    ∙ ap (λ (k : ℕ). heard k (2 * L)) (both
    ∙ ap (λ (k : ℕ). k + ones_from (between (H + 4 + q * L) (H + 4 + q * L + L) bits) 0 n) (ones_between bits (q * L) n L (omega arith))
    ∙ ap (λ (k : ℕ). ones_from bits (q * L) n + k) (ones_between bits (H + 4 + q * L) n L (omega arith))
    ∙ ap (λ (k : ℕ). ones_from bits k n + ones_from bits (H + 4 + k) n) same
    ∙ ap (λ (k : ℕ). ones_from bits (L * q) k + ones_from bits (H + 4 + L * q) k) size)
    ∙ sym (reading_runs L H bits q (omega (arith, within, f.low)))

-- a turn of a loop that writes g n at place n
pub row_turn : (g : ℕ → ℕ) (n v : ℕ) (d out : List ℕ) → n < length d → out ≡ run (λ (i : ℕ). g (i - 1)) n ++ drop n d → v ≡ g n
    → set out n v ≡ run (λ (i : ℕ). g (i - 1)) (n + 1) ++ drop (n + 1) d
row_turn g n v d out h e q =
    let k : n ≡ n + 1 - 1 = omega arith in
    run_turn (λ (i : ℕ). g (i - 1)) n v d out h e (q ∙ ap g k)

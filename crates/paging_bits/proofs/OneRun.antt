-- Indicators that own one run of L bits each, N runs from place 0: which run a place lies in. Laws over run length and number alone; each half of a
-- paging burst is laid out so. Assumes nothing.
use mathlib.Core.Path.{◌≡◌}
use Prim.Native.Nat.{ℕ, ◌+◌, ◌*◌, ◌/◌, ◌<◌, ◌≤◌}
use native.Mathlib.Nat.{suc-mul, mul_comm, mul-le-mul_right, mul-add-div, div-eq_of_lt, div-add-mod, mod-lt, div-lt_iff_lt-mul}
use native.Mathlib.Omega.{arith}

-- run q of N ends within the N runs
pub run_within : (L N q : ℕ) → q < N → L * q + L ≤ N * L
run_within L N q h = omega (arith, mul-le-mul_right L h, suc-mul q L, mul_comm q L)

module _ (L : ℕ) (low : 1 ≤ L) where
  -- the places of run q are owned by q
  pub run_owner : (q j : ℕ) → j < L → (L * q + j) / L ≡ q
  run_owner q j h = omega (arith, mul-add-div low q j, div-eq_of_lt h)

  -- a place lies in the run of its owner
  pub owner_run : (p : ℕ) → (L * (p / L) ≤ p) × (p < L * (p / L) + L)
  owner_run p = (omega (arith, div-add-mod p L), omega (arith, div-add-mod p L, mod-lt p low))

  -- which is one of the N
  pub owner_below : (N p : ℕ) → p < N * L → p / L < N
  owner_below N p h = (div-lt_iff_lt-mul low).1 h

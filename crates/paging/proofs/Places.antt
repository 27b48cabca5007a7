-- Who owns a place of each kind. Cited by the theorems of `paging_back`.
-- Assumes nothing.
use mathlib.Core.Path.{◌≡◌}
use Prim.Native.Nat.{ℕ, ◌+◌, ◌-◌, ◌/◌, ◌<◌, ◌≤◌}
use native.Mathlib.Omega.{arith}
use borrow.Author.Tests.{lt-ltb, le-ltb}
use Rattle.paging.specs.Paging.{reserved, owned, owner_at}

module _ (L H p : ℕ) where
  pub owner_first : p < H → owner_at L H p ≡ owned (p / L)
  unfolding owner_at
  owner_first l = simp (lt-ltb p H l)

  pub owner_between : H ≤ p → p < H + 4 → owner_at L H p ≡ reserved
  unfolding owner_at
  owner_between l m = simp (le-ltb p H l, lt-ltb p (H + 4) m)

  pub owner_second : H + 4 ≤ p → owner_at L H p ≡ owned ((p - (H + 4)) / L)
  unfolding owner_at
  owner_second l = simp (le-ltb p H (omega arith), le-ltb p (H + 4) l)

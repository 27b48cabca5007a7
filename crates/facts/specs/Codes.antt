-- Document 01, "The class book": which leaves a code covers, and when two codes share one or lie
-- one inside the other. Cited by proofs/Codes.antt. Assumes nothing.
use Rattle.std.specs.Prelude.{false, ◌≡◌, ℕ, ◌+◌, ◌-◌, ◌*◌, ◌/◌, ◌<◌, ◌≤◌}
use Rattle.conditions.specs.Conditions.{bad_code}

-- 6: a spreading factor of 1, 2, 4, 8 or 16, and an index from 1 to it
abbrev pub Good : ℕ → ℕ → Type 0
Good Q k = bad_code Q k ≡ false

-- "Code (Q, k) covers the 16/Q leaves from (k - 1)16/Q": l is that one, or one of those behind it,
-- which are 16/Q with it
unfoldable pub Covers : ℕ → ℕ → ℕ → Type 0
Covers Q k l = ((k - 1) * (16 / Q) ≤ l) × (l < (k - 1) * (16 / Q) + 16 / Q)

-- "a shared leaf": one that code (Q, k) and code (R, j) both cover
unfoldable pub SharedLeaf : ℕ → ℕ → ℕ → ℕ → Type 0
SharedLeaf Q k R j = (l : ℕ) × (Covers Q k l × Covers R j l)

-- every leaf that code (Q, k) covers, code (R, j) covers too
unfoldable pub Inside : ℕ → ℕ → ℕ → ℕ → Type 0
Inside Q k R j = (l : ℕ) → Covers Q k l → Covers R j l

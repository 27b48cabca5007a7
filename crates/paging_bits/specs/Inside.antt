-- What the functions on a frame's bits ask of each other and of their callers in `paging`. No reader of a public promise has to believe it.
-- Assumes nothing.
use Rattle.std.specs.Prelude.{◌≡◌, List, ℕ, ◌*◌, ◌≤◌, length}

-- N short runs of L bits fill a half of H, and there are some
pub record Fits (L N H : ℕ) : Type 0 where
  pub low : 1 ≤ L
  pub high : L ≤ 8
  pub some : 1 ≤ N
  pub whole : N * L ≡ H

-- memory of at least n bytes
abbrev pub Holds : List ℕ → ℕ → Type 0
Holds memory n = n ≤ length memory

-- Document 02, C-18: where "a clean copy of a permitted user .. is answered as that user". What the theorem of this crate asks of a user (proofs/CleanCopies.antt).
-- Over document 01's chip (crate midambles) and the users that a count permits (crate codes). Assumes nothing.
use Rattle.std.specs.Prelude.{◌≡◌, true, ℕ, ◌+◌, ◌%◌, ◌<◌, ◌≤◌}
use Rattle.codes.specs.Codes.{code_of, permitted}
use Rattle.midambles.specs.TrainingSequences.{chip_of}

-- user l's "midamble is a power of j times" user k's: a chip is written as its power of j, so each of l's is k's and the same power more
pub record PowerOfJ (cell burst k l : ℕ) : Type 0 where
  pub power : ℕ
  pub below : power < 4
  pub each : (i : ℕ) → 1 ≤ i → i ≤ (code_of burst).length → chip_of cell burst l i ≡ (chip_of cell burst k i + power) % 4

-- "no other permitted user's midamble is a power of j times it"
abbrev pub Alone : ℕ → ℕ → ℕ → ℕ → Type 0
Alone cell burst count k = (l : ℕ) → permitted (code_of burst) count l ≡ true → (l ≡ k → ⊥) → PowerOfJ cell burst k l → ⊥

-- Document 02, C-15: "However the blocks are cut, the chips joined are those of document 01." What a
-- caller has who lends one block after another. Cited by proofs/Blocks.antt and
-- proofs/Cuts.antt. Assumes nothing.
use Rattle.std.specs.Prelude.{List, [], ◌∷◌, ◌++◌, ℕ, take}
use Rattle.refusals.specs.Refusals.{Outcome, refused, answered, ◌leaving◌}
use Rattle.blocks.specs.declared.Place.{Place}
use Rattle.blocks.specs.Calls.{block_outcome}

-- the bytes that were written into a block: as many of it as the answer says
unfoldable pub bytes_in : Outcome ℕ (Place × List ℕ) → List ℕ
bytes_in (refused n leaving m) = []
bytes_in (answered n leaving m) = take n m.1

-- the place that is handed back
unfoldable pub place_in : Outcome ℕ (Place × List ℕ) → Place
place_in (a leaving m) = m.0

-- what is said of a block without its place
unfoldable pub memory_in : Outcome ℕ (Place × List ℕ) → Outcome ℕ (List ℕ)
memory_in (a leaving m) = a leaving m.1

-- blocks lent one after another, each at the place that the call before handed back: the bytes that
-- were written, joined
unfoldable pub joined : Place → List (List ℕ) → List ℕ
joined p [] = []
joined p (out ∷ outs) = bytes_in (block_outcome p out) ++ joined (place_in (block_outcome p out)) outs

-- the place behind the last of them
unfoldable pub last_place : Place → List (List ℕ) → Place
last_place p [] = p
last_place p (out ∷ outs) = last_place (place_in (block_outcome p out)) outs

-- Document 02, C-15, "Midambles by the block": what goes into a block, and the place behind it. Cited by specs/Calls.antt, by the promises of
-- fitting, fill and behind, and by the crate facts.
-- Over document 01's chips of a midamble (crate midambles), so that what a midamble is stands in one place. Assumes nothing.
use Rattle.std.specs.Prelude.{List, ℕ, ◌+◌, length, take, drop}
use Rattle.midambles.specs.TrainingSequences.{chips_of}
use Rattle.blocks.specs.declared.Place.{Place}

-- "starts on a cell, type, count and user": the place before the first chip
abbrev pub place_at : ℕ → ℕ → ℕ → ℕ → Place
place_at cell burst count user = record { cell = cell; burst = burst; count = count; user = user; written = 0 }

-- "the place, counted in chips already written": the chips behind those
unfoldable pub to_come : Place → List ℕ
to_come p = drop p.written (chips_of p.cell p.burst p.user)

-- "fills one lent block after another": with as many of them as block and midamble have left
unfoldable pub block_of : Place → List ℕ → List ℕ
block_of p out = take (length out) (to_come p)

-- the place behind so many chips more
unfoldable pub place_behind : Place → ℕ → Place
place_behind p n = record { cell = p.cell; burst = p.burst; count = p.count; user = p.user; written = p.written + n }

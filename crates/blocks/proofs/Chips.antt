-- The chips that are to come from a place on: how many they are, and that elements read from there are these chips. Cited by the proofs of this crate and by the
-- theorems on blocks. Assumes nothing.
use mathlib.Core.Path.{◌≡◌, sym, ap, ◌∙◌}
use mathlib.Core.List.{List, [], ◌++◌}
use Prim.Native.Nat.{ℕ, ◌+◌, ◌-◌, ◌≤◌}
use native.Mathlib.Omega.{arith}
use lib.ListN.{length, get_or, take, drop, length-drop}
use Rattle.std.proofs.Common.{min}
use Rattle.std.proofs.lemmas.List.{length-take}
use Rattle.laws.specs.Runs.{run}
use Rattle.laws.proofs.Parts.{length_none, take_few, take_within}
use Rattle.laws.proofs.Runs.{run_length, run_same, run_part}
use Rattle.codes.specs.Codes.{code_of, shift_of}
use Rattle.elements.specs.Elements.{rows_of, element}
use Rattle.midambles.specs.TrainingSequences.{chip_of, chips_of}
use Rattle.blocks.specs.declared.Place.{Place}
use Rattle.blocks.specs.Blocks.{to_come, block_of}

module _ (p : Place) where
  abbrev all : ℕ
  all = (code_of p.burst).length

  pub to_come_lem : length (to_come p) ≡ all - p.written
  unfolding to_come chips_of
  to_come_lem = length-drop p.written (run _ all) ∙ ap (λ (n : ℕ). n - p.written) (run_length _ all)

  -- as many as are left or as there is room for, whichever is less, go into a block
  pub length_fitting : (room : ℕ) → length (take room (to_come p)) ≡ min room (all - p.written)
  length_fitting room = length-take room (to_come p) ∙ ap (λ (n : ℕ). min room n) to_come_lem

  -- no more than are left go into a block
  pub within : (room : ℕ) → length (take room (to_come p)) ≤ all - p.written
  within room = let h = take_within room (to_come p) in omega (arith, h, to_come_lem)

  -- nor more than it has bytes
  pub few : (chips : ℕ) (out : List ℕ) → chips ≡ length (block_of p out) → (chips ≤ all - p.written) × (chips ≤ length out)
  unfolding block_of
  few chips out e = (omega (arith, e, within (length out)), omega (arith, e, take_few (length out) (to_come p)))

  -- where nothing goes in, all stays
  pub none_in : (chips : ℕ) (out : List ℕ) → chips ≡ length (block_of p out) → chips ≡ 0 → out ≡ block_of p out ++ drop chips out
  none_in chips out e z =
      let none : block_of p out ≡ [] = length_none (block_of p out) (sym e ∙ z) in
      sym (ap (λ (l : List ℕ). l ++ drop chips out) none ∙ ap (λ (k : ℕ). drop k out) z)

  -- elements read at the user's shift and so many places behind it are the chips from there on
  pub read_on : (chips by : ℕ) (out l : List ℕ) → p.written ≤ all → chips ≡ length (block_of p out) → by ≡ shift_of (code_of p.burst) p.user + p.written
      → l ≡ run (λ (i : ℕ). element (code_of p.burst).period (get_or (rows_of p.burst) p.cell []) (i + by)) chips ++ drop chips out
      → l ≡ block_of p out ++ drop chips out
  unfolding block_of to_come chips_of chip_of
  read_on chips by out l low e b v =
      let row = get_or (rows_of p.burst) p.cell [] in
      let P = (code_of p.burst).period in
      let shift = shift_of (code_of p.burst) p.user in
      let same : (i : ℕ) → 1 ≤ i → element P row (i + by) ≡ element P row (i + p.written + shift) =
      λ i h. let at : i + by ≡ i + p.written + shift = omega (arith, b) in ap (element P row) at in
      v
      ∙ ap (λ (x : List ℕ). x ++ drop chips out)
      (run_same _ _ chips same ∙ sym (run_part (λ (i : ℕ). element P row (i + shift)) all p.written (length out) chips low e))

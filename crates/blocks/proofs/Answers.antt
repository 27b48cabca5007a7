-- What a block's table, where nothing in it holds, says of the place. Cited by the proof of block and by the theorems on blocks.
-- Assumes nothing.
use mathlib.Core.Path.{◌≡◌, sym}
use mathlib.Core.Bool.{false}
use Prim.Native.Nat.{ℕ, ◌≤◌, ◌<◌}
use borrow.Author.Tests.{ltb-false}
use Rattle.refusals.specs.Refusals.{Refusals, first_of}
use Rattle.refusals.proofs.First.{append_none}
use Rattle.conditions.specs.Conditions.{bad_place}
use Rattle.tables.specs.Tables.{user_refusals}
use Rattle.codes.specs.Codes.{code_of}
use Rattle.codes.proofs.Numbers.{length_high}
use Rattle.midambles.proofs.Passed.{passed}
use Rattle.midambles.proofs.Answers.{user_numbered}
use Rattle.blocks.specs.declared.Place.{Place}
use Rattle.blocks.specs.Calls.{block_refusals}
use Rattle.blocks.proofs.Chips.{within}

module _ (p : Place) where
  abbrev users : Refusals
  users = user_refusals p.cell p.burst p.count p.user

  abbrev all : ℕ
  all = (code_of p.burst).length

  -- its user is permitted, and it is in the midamble
  pub good : first_of (block_refusals p) ≡ 0 → (first_of users ≡ 0) × (bad_place all p.written ≡ false)
  unfolding block_refusals
  good z = append_none users 22 (bad_place all p.written) (user_numbered p.cell p.burst p.count p.user) z

  pub good_place : first_of (block_refusals p) ≡ 0 → p.written ≤ all
  unfolding bad_place
  good_place z = ltb-false all p.written (good z).1

  -- as the search is handed it
  pub place_low : 0 ≡ first_of (block_refusals p) → p.written ≤ all
  place_low z = good_place (sym z)

  pub cell_low : 0 ≡ first_of (block_refusals p) → p.cell < 128
  cell_low z = (passed p.cell p.burst p.count p.user (good (sym z)).0).cell_high

  pub user_low : 0 ≡ first_of (block_refusals p) → 1 ≤ p.user
  user_low z = (passed p.cell p.burst p.count p.user (good (sym z)).0).user_low

pub ruleset block_steps = (place_low, cell_low, user_low, within, length_high)

-- What a call knows whose user was not refused. Cited by proofs/Answers.antt, the calls' proofs and the crates blocks and signal_card.
-- Assumes nothing.
use mathlib.Core.Path.{◌≡◌}
use mathlib.Core.List.{[]}
use Prim.Native.Nat.{ℕ, ◌<◌, ◌≤◌}
use native.Mathlib.Omega.{arith}
use borrow.Author.Tests.{ltb-false, not-false}
use Rattle.conditions.specs.Conditions.{bad_type, bad_cell, bad_count, bad_user}
use Rattle.tables.specs.Tables.{user_refusals}
use Rattle.codes.specs.Codes.{code_of}
use Rattle.codes.proofs.Permitted.{user_low}
use Rattle.refusals.specs.Refusals.{first_of}
use Rattle.refusals.proofs.First.{first_none}

-- what the refusals 1 to 4 leave
pub record Passed (cell user : ℕ) : Type 0 where
  pub cell_high : cell < 128
  pub user_low : 1 ≤ user

pub passed : (cell burst count user : ℕ) → first_of (user_refusals cell burst count user) ≡ 0 → Passed cell user
unfolding user_refusals bad_cell bad_user
passed cell burst count user e =
    let one = first_none 0 (bad_cell cell) _ e in
    let two = first_none 1 (bad_type burst) _ one.1 in
    let three = first_none 2 (bad_count burst count) _ two.1 in
    let four = first_none 3 (bad_user burst count user) [] three.1 in
    record {
      cell_high = omega (arith, ltb-false 127 cell one.0);
      user_low = user_low (code_of burst) count user (not-false _ four.0);
    }

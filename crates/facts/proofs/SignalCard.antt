-- Document 02, C-12: "Powers 0, 1, 2, 3 are ..", "so nothing is rounded", "plain zero and not minus
-- zero", and what its two calls say of each other: of a row that was filled, pair i is what chip i
-- is answered with. No function's proof cites it: it is for the reader. Assumes nothing.
use mathlib.Core.Path.{◌≡◌, refl, sym, ap, ◌∙◌}
use mathlib.Core.Bool.{true, false}
use mathlib.Core.List.{List, [], ◌∷◌, ◌++◌, map}
use Prim.Native.Nat.{ℕ, ◌+◌, ◌-◌, ◌*◌, ◌≤◌}
use native.Mathlib.Omega.{arith}
use lib.ListN.{get_or, drop}
use lib.IntN.{ℤ, pos, neg_ℤ, nat_abs}
use lib.Ieee.{Float, nan, fin, binary32}
use lib.Ieee.Exact.{HasValue}
use borrow.Author.Tests.{le-ltb}
use Rattle.laws.proofs.Bools.{or_same}
use Rattle.refusals.specs.Refusals.{answered, ◌leaving◌, first_of}
use Rattle.refusals.proofs.First.{first_passes, append_passes, answer_answered}
use Rattle.conditions.specs.Conditions.{bad_midamble_chip, too_short, bad_level}
use Rattle.tables.specs.Tables.{user_refusals}
use Rattle.codes.specs.Codes.{code_of}
use Rattle.midambles.specs.TrainingSequences.{chip_of, chips_of}
use Rattle.midambles.specs.Calls.{chip_refusals}
use Rattle.midambles.proofs.Answers.{user_numbered, chip_numbered}
use Rattle.floats.specs.Whole.{is_minus}
use Rattle.floats.proofs.Whole.{whole_exact, never_minus_zero}
use Rattle.signal_card.specs.SignalCard.{pair_of, f32_of, real_of, imaginary_of, floats_of}
use Rattle.signal_card.specs.Calls.{pair_refusals, pair_answer, pairs_refusals, pairs_outcome}
use Rattle.signal_card.proofs.Parts.{parts_size}
use Rattle.signal_card.proofs.Rows.{row_at}
use Rattle.signal_card.proofs.Answers.{row_good, pairs_given}

-- "Powers 0, 1, 2, 3 are (a, 0), (0, a), (-a, 0), (0, -a)"
pub four_powers : (a : ℕ) → map (pair_of a) (0 ∷ 1 ∷ 2 ∷ 3 ∷ [])
    ≡ ((pos a, pos 0) ∷ (pos 0, pos a) ∷ (neg_ℤ (pos a), pos 0) ∷ (pos 0, neg_ℤ (pos a)) ∷ [])
unfolding pair_of
four_powers a = refl

-- ---- "The level a is a whole number from 1 to 2047, so nothing is rounded."

-- each float is the whole number itself, and "plain zero and not minus zero"
pub nothing_rounded : (a p : ℕ) → a ≤ 2047
    → HasValue (real_of a p) (is_minus (pair_of a p).0) (nat_abs (pair_of a p).0) 1
    × HasValue (imaginary_of a p) (is_minus (pair_of a p).1) (nat_abs (pair_of a p).1) 1
unfolding real_of imaginary_of f32_of
nothing_rounded a p h =
    let s = parts_size a p in
    (whole_exact binary32 (pair_of a p).0 (omega (arith, s.0)), whole_exact binary32 (pair_of a p).1 (omega (arith, s.1)))

pub no_minus_zero : (a p : ℕ) (e : ℤ) → a ≤ 2047 → (real_of a p ≡ fin true 0 e → ⊥) × (imaginary_of a p ≡ fin true 0 e → ⊥)
unfolding real_of imaginary_of f32_of
no_minus_zero a p e h =
    let s = parts_size a p in
    (never_minus_zero binary32 (pair_of a p).0 e (omega (arith, s.0)), never_minus_zero binary32 (pair_of a p).1 e (omega (arith, s.1)))

-- ---- pair i of a row is the pair of chip i

-- a row that is filled: its user and its level are good, so every chip of its midamble is answered
module _ (cell burst count user a n : ℕ) (out left : List Float)
    (whole : pairs_outcome cell burst count user a out ≡ (answered n leaving left)) (i : ℕ) (low : 1 ≤ i) (high : i ≤ (code_of burst).length) where
  filled : (first_of (pairs_refusals cell burst count user a out) ≡ 0) × (floats_of a (chips_of cell burst user) ++ drop (2 * (code_of burst).length) out ≡ left)
  filled = pairs_given cell burst count user a n out left whole

  good : (first_of (user_refusals cell burst count user) ≡ 0) × (too_short (2 * (code_of burst).length) out ≡ false) × (bad_level a ≡ false)
  good = row_good cell burst count user a out filled.0

  chip_good : bad_midamble_chip (code_of burst).length i ≡ false
  unfolding bad_midamble_chip
  chip_good = or_same (le-ltb i 1 low) (le-ltb (code_of burst).length i high)

  none_refused : first_of (pair_refusals cell burst count user i a) ≡ 0
  unfolding pair_refusals chip_refusals first_of
  none_refused =
      append_passes (chip_refusals cell burst count user i) _ (chip_numbered cell burst count user i)
      (append_passes (user_refusals cell burst count user) _ (user_numbered cell burst count user) good.0 ∙ first_passes 10 _ [] chip_good)
      ∙ first_passes 22 _ [] good.2

  -- the two floats of chip i in the row
  in_row : (get_or left (2 * (i - 1)) nan ≡ real_of a (chip_of cell burst user i)) × (get_or left (2 * (i - 1) + 1) nan ≡ imaginary_of a (chip_of cell burst user i))
  in_row = row_at cell burst user a _ left filled.1 i low high

  -- so chip i by its own call is answered, with these two
  pub row_pair : pair_answer cell burst count user i a ≡ answered (get_or left (2 * (i - 1)) nan, get_or left (2 * (i - 1) + 1) nan)
  unfolding pair_answer
  row_pair = answer_answered _ _ none_refused ∙ ap answered (λ j. (sym in_row.0 j, sym in_row.1 j))

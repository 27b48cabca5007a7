-- A row that begins with a user's midamble at a level, as it is read: its samples are the chips, and none is refused. Cited by proofs/CleanCopies.antt.
-- Assumes nothing.
use mathlib.Core.Path.{◌≡◌, refl, sym, ap, ◌∙◌}
use mathlib.Core.Bool.{true, false, not}
use mathlib.Core.List.{List, [], ◌∷◌, ◌++◌}
use Prim.Native.Nat.{ℕ, ◌+◌, ◌-◌, ◌*◌, ◌≤◌}
use native.Mathlib.Omega.{arith}
use lib.ListN.{length, get_or, take, length-append}
use lib.Seq.{take_at}
use lib.Ieee.{Float, nan}
use borrow.Author.Tests.{le-ltb}
use Rattle.laws.proofs.Bools.{both}
use Rattle.conditions.specs.Conditions.{too_short}
use Rattle.codes.specs.Codes.{code_of}
use Rattle.midambles.specs.TrainingSequences.{chip_of, chips_of}
use Rattle.signal_card.specs.SignalCard.{pair_of, f32_of, real_of, imaginary_of, floats_of}
use Rattle.signal_card.proofs.Parts.{parts_size}
use Rattle.signal_card.proofs.Rows.{midamble_length, row_at}
use Rattle.samples.specs.Samples.{is_sample, sample_of, bad_samples}
use Rattle.laws.specs.Lists.{every}
use Rattle.samples.proofs.Reading.{reads_whole, is_whole}
use Rattle.correlation.specs.Correlation.{sample_at}

module _ (level : ℕ) (high : level ≤ 2047) where
  -- a chip's floats are samples, and read as its parts
  chip_samples : (p : ℕ) → (is_sample (real_of level p) ≡ true) × (is_sample (imaginary_of level p) ≡ true)
  unfolding real_of imaginary_of f32_of
  chip_samples p = let s = parts_size level p in (is_whole _ (omega (arith, s.0)), is_whole _ (omega (arith, s.1)))

  chip_reads : (p : ℕ) → (sample_of (real_of level p) ≡ (pair_of level p).0) × (sample_of (imaginary_of level p) ≡ (pair_of level p).1)
  unfolding real_of imaginary_of f32_of
  chip_reads p = let s = parts_size level p in (reads_whole _ (omega (arith, s.0)), reads_whole _ (omega (arith, s.1)))

  all_samples : (chips : List ℕ) → every is_sample (floats_of level chips) ≡ true
  unfolding every floats_of
  all_samples [] = refl
  all_samples (p ∷ chips) = let s = chip_samples p in both (is_sample (real_of level p)) _ s.0 (both (is_sample (imaginary_of level p)) _ s.1 (all_samples chips))

  module _ (cell burst user : ℕ) (row rest : List Float) (front : row ≡ floats_of level (chips_of cell burst user) ++ rest) where
    pub long_enough : too_short (2 * (code_of burst).length) row ≡ false
    unfolding too_short
    long_enough =
        let l = ap length front ∙ length-append (floats_of level (chips_of cell burst user)) rest in
        le-ltb (length row) (2 * (code_of burst).length) (omega (arith, l, midamble_length cell burst user level))

    pub good_samples : bad_samples (2 * (code_of burst).length) row ≡ false
    unfolding bad_samples
    good_samples =
        let n = 2 * (code_of burst).length in
        let taken : take n row ≡ floats_of level (chips_of cell burst user) = ap (take n) front ∙ take_at _ rest n (midamble_length cell burst user level) in
        ap (λ (l : List Float). not (every is_sample l)) taken ∙ ap not (all_samples (chips_of cell burst user))

    pub reads_chips : (i : ℕ) → 1 ≤ i → i ≤ (code_of burst).length → sample_at row i ≡ pair_of level (chip_of cell burst user i)
    unfolding sample_at
    reads_chips i low top =
        let two = row_at cell burst user level rest row (sym front) i low top in
        let reads = chip_reads (chip_of cell burst user i) in
        let even : 2 * i - 2 ≡ 2 * (i - 1) = omega arith in
        let odd : 2 * i - 1 ≡ 2 * (i - 1) + 1 = omega arith in
        let real = ap (λ (k : ℕ). sample_of (get_or row k nan)) even ∙ ap sample_of two.0 ∙ reads.0 in
        let imaginary = ap (λ (k : ℕ). sample_of (get_or row k nan)) odd ∙ ap sample_of two.1 ∙ reads.1 in
        λ j. (real j, imaginary j)

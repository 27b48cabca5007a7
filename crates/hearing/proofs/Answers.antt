-- What each `return` of hear answers, over plain values. Cited by the proof of hear.
-- Assumes nothing.
use mathlib.Core.Path.{◌≡◌, refl, ap, ◌∙◌}
use mathlib.Core.Bool.{Bool, false, cond, ◌&&◌}
use mathlib.Core.List.{List}
use Prim.Native.Nat.{ℕ, zero, suc, ◌+◌, ◌*◌, ◌%◌, ◌≤◌}
use native.Mathlib.Omega.{arith}
use lib.Dec.{ltb}
use lib.ListN.{length}
use lib.IntN.{ℤ, nat_abs}
use lib.Ieee.{Float, binary32, of_int}
use Rattle.codes.specs.declared.Code.{Code}
use Rattle.codes.specs.Codes.{code_of, permitted}
use Rattle.codes.proofs.Numbers.{of_codes, length_high}
use Rattle.signal_card.specs.SignalCard.{f32_of}
use Rattle.samples.specs.Samples.{bad_samples}
use Rattle.samples.proofs.Front.{each_sample}
use Rattle.correlation.specs.Correlation.{real_sum, imaginary_sum}
use Rattle.correlation.specs.Inside.{Samples, Turned, reach, HoldsSigns}
use Rattle.correlation.proofs.Meaning.{sums_meant}
use Rattle.hearing.specs.Hearing.{strength, loudest}
use Rattle.hearing.specs.Calls.{somebody, heard_of, who_is_heard}
use Rattle.hearing.specs.Inside.{sums_in, sums_at, strength_in, loudest_in, heard_as, heard_in}

-- ---- the loudest is the same for strengths that are the same
loudest_same : (may : ℕ → Bool) (f g : ℕ → ℕ) → ((k : ℕ) → f k ≡ g k) → (n : ℕ) → loudest may f n ≡ loudest may g n
unfolding loudest
loudest_same may f g h zero = refl
loudest_same may f g h (suc k) =
    let who = loudest_same may f g h k in
    let left : f (loudest may f k) ≡ g (loudest may g k) = h (loudest may f k) ∙ ap g who in
    ap (λ (x : ℕ). cond (may (suc k) && ltb x (f (suc k))) (suc k) (loudest may f k)) left
    ∙ ap (λ (x : ℕ). cond (may (suc k) && ltb (g (loudest may g k)) x) (suc k) (loudest may f k)) (h (suc k))
    ∙ ap (λ (x : ℕ). cond (may (suc k) && ltb (g (loudest may g k)) (g (suc k))) (suc k) x) who

-- ---- what is heard in the turned samples is what document 02 hears in the row
module _ (cell burst count : ℕ) (row re im signs : List Float) (turned : Turned row (code_of burst).length re im) (held : HoldsSigns cell burst (reach burst) signs) where
  sums_are : (k : ℕ) → sums_at re im signs burst (suc k) ≡ (real_sum cell burst row (suc k), imaginary_sum cell burst row (suc k))
  unfolding sums_at sums_in
  sums_are k = sums_meant cell burst (suc k) (omega arith) row re im signs turned held

  strength_same : (k : ℕ) → strength_in re im signs burst k ≡ strength cell burst row k
  unfolding strength_in strength
  strength_same zero = unfold sums_at in refl
  strength_same (suc k) = ap (λ (z : ℤ × ℤ). nat_abs z.0 * nat_abs z.0 + nat_abs z.1 * nat_abs z.1) (sums_are k)

  heard_same : (k : ℕ) → heard_in re im signs burst k ≡ heard_of cell burst row k
  unfolding heard_as heard_of f32_of
  heard_same zero = refl
  heard_same (suc k) = λ j. somebody (suc k) (of_int binary32 (sums_are k j).0) (of_int binary32 (sums_are k j).1)

  pub same_heard : heard_in re im signs burst (loudest_in re im signs burst count (2 * (code_of burst).base)) ≡ heard_of cell burst row (who_is_heard cell burst count row)
  unfolding who_is_heard
  same_heard =
      ap (heard_in re im signs burst) (loudest_same (permitted (code_of burst) count) (strength_in re im signs burst) (strength cell burst row) strength_same (2 * (code_of burst).base))
      ∙ heard_same (loudest (permitted (code_of burst) count) (strength cell burst row) (2 * (code_of burst).base))

-- ---- what is asked before the search: a code's numbers, and rows that hold samples and signs
pub chips_good : (burst : ℕ) (d : Code) → d ≡ code_of burst → (d.length ≤ 512) × (d.length % 4 ≡ 0) × (d.length ≡ (code_of burst).length)
chips_good burst d e =
    let same : d.length ≡ (code_of burst).length = ap (λ (x : Code). x.length) e in
    (omega (arith, length_high burst), ap (λ (x : Code). x.length % 4) e ∙ of_codes (λ (x : Code). x.length % 4 ≡ 0) refl refl burst, same)

pub turned_samples : (row re im : List Float) (n : ℕ) → Turned row n re im → Samples re n × Samples im n
turned_samples row re im n t = (record { all = λ m h. (t.real m h).0 }, record { all = λ m h. (t.imaginary m h).0 })

-- no float is refused, so each is a sample
pub samples_good : (row : List Float) (n : ℕ) → bad_samples n row ≡ false → n ≤ length row → Samples row n
samples_good row n good long = record { all = λ m h. each_sample row n m good long h }

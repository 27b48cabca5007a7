-- One turned carrying bit tears exactly its own indicator, and leaves every other reading as it was.
-- Said over run length L, half H and number N, with N runs filling a half. Assumes nothing.
use mathlib.Core.Path.{◌≡◌, sym, ap, ◌∙◌}
use mathlib.Core.List.{List, ◌++◌}
use mathlib.Core.Logic.{⊎_elim}
use Prim.Native.Nat.{ℕ, ◌+◌, ◌-◌, ◌*◌, ◌<◌, ◌≤◌}
use native.Mathlib.Omega.{arith}
use lib.ListN.{get_or, set, length, length-set}
use lib.Seq.{ext_get_or, get_or-set_same, get_or-set_other}
use Rattle.laws.specs.Runs.{run}
use Rattle.laws.proofs.Cases.{equal_or_not}
use Rattle.laws.proofs.Runs.{run_length}
use Rattle.paging_bits.specs.Bits.{bits_in, as_bit, burst_of, ones_from, heard, reading_of, readings_of}
use Rattle.paging_bits.specs.Inside.{Fits}
use Rattle.paging_bits.proofs.OneRun.{run_within}
use Rattle.paging_bits.proofs.Counted.{as_bit_most, reading_runs}
use Rattle.paging.specs.Paging.{owned, owner_at}
use Rattle.paging_back.proofs.Counted.{ones_elsewhere, ones_changed}
use Rattle.paging_back.proofs.Heard.{heard_changed}
use Rattle.paging_back.proofs.Rows.{row_at}
use Rattle.paging_back.proofs.Owners.{owned_has, owned_run}
use Rattle.paging_back.proofs.Written.{burst_length, owned_written}
use Rattle.paging_back.proofs.Readings.{first_owned, second_owned, as_bit_again, read_back, all_read_back}

module _ (L H N : ℕ) (low : 1 ≤ L) (whole : N * L ≡ H) (bits : List ℕ) (p w : ℕ) where
  -- a run of q holds no bit of another indicator
  first_free : (q q' j : ℕ) → owner_at L H p ≡ owned q → (q' ≡ q → ⊥) → q' < N → j < L → L * q' + j ≡ p → ⊥
  first_free q q' j e d h l k =
      let o : owner_at L H p ≡ owned q' = ap (owner_at L H) (sym k) ∙ first_owned L H N low whole q' j h l in
      d (cc)

  second_free : (q q' j : ℕ) → owner_at L H p ≡ owned q → (q' ≡ q → ⊥) → j < L → H + 4 + L * q' + j ≡ p → ⊥
  second_free q q' j e d l k =
      let o : owner_at L H p ≡ owned q' = ap (owner_at L H) (sym k) ∙ second_owned L H N low whole q' j l in
      d (cc)

  -- every other reading stays as it was, torn or not
  pub flip_leaves : (q q' : ℕ) → owner_at L H p ≡ owned q → q' < N → (q' ≡ q → ⊥) → reading_of L H (set bits p w) q' ≡ reading_of L H bits q'
  flip_leaves q q' e h d =
      let ends = run_within L N q' h in
      let first = ones_elsewhere bits p w (L * q') L (λ j l k. first_free q q' j e d h l k) in
      let second = ones_elsewhere bits p w (H + 4 + L * q') L (λ j l k. second_free q q' j e d l k) in
      reading_runs L H (set bits p w) q' (omega arith)
      ∙ ap (λ (k : ℕ). heard (k + ones_from (set bits p w) (H + 4 + L * q') L) (2 * L)) first
      ∙ ap (λ (k : ℕ). heard (ones_from bits (L * q') L + k) (2 * L)) second
      ∙ sym (reading_runs L H bits q' (omega arith))

  module _ (q : ℕ) (inside : q < N) (long : p < length bits) (turned : as_bit w ≡ as_bit (get_or bits p 0) → ⊥) (untorn : reading_of L H bits q ≡ 2 → ⊥) where
    -- the two runs together count one bit that changed
    tears : L * q < H
        → ones_from (set bits p w) (L * q) L + ones_from (set bits p w) (H + 4 + L * q) L + as_bit (get_or bits p 0) ≡ ones_from bits (L * q) L + ones_from bits (H + 4 + L * q) L + as_bit w
        → reading_of L H (set bits p w) q ≡ 2
    tears h e =
        reading_runs L H (set bits p w) q h
        ∙ heard_changed (2 * L) _ _ _ _ (omega arith) (as_bit_most (get_or bits p 0)) (as_bit_most w) turned e (λ z. untorn (reading_runs L H bits q h ∙ z))

    -- where the bit is of its indicator's first run, and of its second
    tears_first : (j : ℕ) → j < L → L * q + j ≡ p → reading_of L H (set bits p w) q ≡ 2
    tears_first j l k =
        let ends = run_within L N q inside in
        let first = ones_changed bits p w (L * q) L j l k long in
        let second = ones_elsewhere bits p w (H + 4 + L * q) L (λ i m z. omega arith) in
        tears (omega arith) (omega arith)

    tears_second : (j : ℕ) → j < L → H + 4 + L * q + j ≡ p → reading_of L H (set bits p w) q ≡ 2
    tears_second j l k =
        let ends = run_within L N q inside in
        let first = ones_elsewhere bits p w (L * q) L (λ i m z. omega arith) in
        let second = ones_changed bits p w (H + 4 + L * q) L j l k long in
        tears (omega arith) (omega arith)

  -- the indicator that owns the bit is torn, if it was not before
  pub flip_tears : (q : ℕ) → p < bits_in H → p < length bits → owner_at L H p ≡ owned q → (as_bit w ≡ as_bit (get_or bits p 0) → ⊥) → (reading_of L H bits q ≡ 2 → ⊥)
      → reading_of L H (set bits p w) q ≡ 2
  flip_tears q h long e d t =
      let o = owned_run L H N low whole p q h e in
      ⊎_elim (tears_first q o.0 long d t o.1.0 o.1.1)
      (tears_second q o.0 long d t o.1.0 o.1.1) o.1.2

-- the same of all readings of a frame: one is torn, the others are what they were
module _ (L N H : ℕ) (f : Fits L N H) (bits : List ℕ) (p w : ℕ) where
  pub flip_one : (q : ℕ) → p < bits_in H → p < length bits → owner_at L H p ≡ owned q → (as_bit w ≡ as_bit (get_or bits p 0) → ⊥) → (reading_of L H bits q ≡ 2 → ⊥)
      → readings_of L N H (set bits p w) ≡ set (readings_of L N H bits) q 2
  unfolding readings_of
  flip_one q h long e d t =
      let now = run (λ (i : ℕ). reading_of L H (set bits p w) (i - 1)) N in
      let was = run (λ (i : ℕ). reading_of L H bits (i - 1)) N in
      let size : length was ≡ N = run_length (λ (i : ℕ). reading_of L H bits (i - 1)) N in
      let size' : length now ≡ N = run_length (λ (i : ℕ). reading_of L H (set bits p w) (i - 1)) N in
      let inside : q < N = (owned_has L H N f.low f.whole p q h e).0 in
      ext_get_or 0 now (set was q 2) (omega (arith, length-set was q 2))
      (λ i l.
      let m : i < N = omega arith in
      row_at (reading_of L H (set bits p w)) N i m
      ∙ ⊎_elim
      (λ (k : i ≡ q).
      ap (reading_of L H (set bits p w)) k ∙ flip_tears L H N f.low f.whole bits p w q h long e d t
      ∙ sym (get_or-set_same was q 2 0 (omega arith)) ∙ ap (λ (n : ℕ). get_or (set was q 2) n 0) (sym k))
      (λ (k : i ≡ q → ⊥).
      flip_leaves L H N f.low f.whole bits p w q i e m k
      ∙ sym (row_at (reading_of L H bits) N i m) ∙ sym (get_or-set_other was q i 2 0 k))
      (equal_or_not i q))

-- and of a burst as it was written: turning one bit over tears its owner, and every other setting is read back
pub written_flip : (L N H : ℕ) → Fits L N H → (settings rest : List ℕ) (p w q : ℕ) → p < bits_in H → owner_at L H p ≡ owned q → (as_bit w ≡ as_bit (get_or settings q 0) → ⊥)
    → readings_of L N H (set (burst_of L N settings ++ rest) p w) ≡ set (run (λ (i : ℕ). as_bit (get_or settings (i - 1) 0)) N) q 2
written_flip L N H f settings rest p w q h e d =
    let bits = burst_of L N settings ++ rest in
    let v = get_or settings q 0 in
    let inside = (owned_has L H N f.low f.whole p q h e).0 in
    let was = ap as_bit (owned_written L H N f.low f.whole settings rest p q h e) ∙ as_bit_again v in
    let back = read_back L H N f.low f.whole settings rest q inside in
    flip_one L N H f bits p w q h (omega (arith, burst_length L H N f.low f.whole settings rest)) e (λ k. d (k ∙ was)) (λ k. omega (arith, as_bit_most v))
    ∙ ap (λ (l : List ℕ). set l q 2) (all_read_back L N H f settings rest)

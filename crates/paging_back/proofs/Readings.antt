-- What is read of a burst: the settings that were written, none torn, and nothing of the reserved bits.
-- Said over run length L, half H and number N, with N runs filling a half. Assumes nothing.
use mathlib.Core.Path.{◌≡◌, refl, sym, ap, ◌∙◌}
use mathlib.Core.Bool.{false, ◌||◌}
use mathlib.Core.List.{List, [], ◌++◌}
use mathlib.Core.Logic.{◌⊎◌, ⊎_elim}
use Prim.Native.Nat.{ℕ, ◌+◌, ◌-◌, ◌*◌, ◌<◌, ◌≤◌}
use native.Mathlib.Nat.{mul_assoc, mul_comm}
use native.Mathlib.Omega.{arith}
use lib.ListN.{get_or, drop, length}
use borrow.Author.Tests.{le-ltb}
use Rattle.laws.specs.Runs.{run}
use Rattle.refusals.specs.Refusals.{answered, ◌leaving◌, first_of}
use Rattle.refusals.proofs.First.{first_passes, append_passes, answered_leaving}
use Rattle.conditions.specs.Conditions.{too_short}
use Rattle.tables.specs.Tables.{pich_refusals}
use Rattle.paging_bits.specs.Bits.{bits_in, per_frame, as_bit, burst_of, ones_from, heard, reading_of, readings_of}
use Rattle.paging_bits.specs.Inside.{Fits, Holds}
use Rattle.paging_bits.proofs.OneRun.{run_within, run_owner}
use Rattle.paging_bits.proofs.Counted.{as_bit_cases, reading_runs}
use Rattle.paging.specs.Paging.{half_of, owned, owner_at}
use Rattle.paging.specs.Calls.{read_page_outcome}
use Rattle.paging.proofs.Passed.{fits, pich_numbered}
use Rattle.paging_back.proofs.Counted.{ones_same, ones_all}
use Rattle.paging_back.proofs.Heard.{heard_all}
use Rattle.paging_back.proofs.Rows.{row_same}
use Rattle.paging_back.proofs.Owners.{owner_first, owner_second}
use Rattle.paging_back.proofs.Written.{burst_length, owned_written}

-- a bit stays itself
pub as_bit_again : (v : ℕ) → as_bit (as_bit v) ≡ as_bit v
unfolding as_bit
as_bit_again v = ⊎_elim (λ e. ap as_bit e ∙ sym e) (λ e. ap as_bit e ∙ sym e) (as_bit_cases v)

module _ (L H N : ℕ) (low : 1 ≤ L) (whole : N * L ≡ H) where
  -- the places of indicator q in both halves are its own
  pub first_owned : (q j : ℕ) → q < N → j < L → owner_at L H (L * q + j) ≡ owned q
  first_owned q j h l = let ends = run_within L N q h in owner_first L H (L * q + j) (omega arith) ∙ ap owned (run_owner L low q j l)

  pub second_owned : (q j : ℕ) → j < L → owner_at L H (H + 4 + L * q + j) ≡ owned q
  second_owned q j l =
      let k : H + 4 + L * q + j ≡ H + 4 + (L * q + j) = omega arith in
      ap (owner_at L H) k ∙ owner_second L H (L * q + j) ∙ ap owned (run_owner L low q j l)

  -- "Reserved bits are not read": two bursts that agree wherever a bit is owned read alike
  pub reserved_unread : (bits bits' : List ℕ) → ((p q : ℕ) → p < bits_in H → owner_at L H p ≡ owned q → as_bit (get_or bits p 0) ≡ as_bit (get_or bits' p 0))
      → (q : ℕ) → q < N → reading_of L H bits q ≡ reading_of L H bits' q
  reserved_unread bits bits' same q h =
      let ends = run_within L N q h in
      let first = ones_same bits bits' (L * q) L (λ j l. same (L * q + j) q (omega arith) (first_owned q j h l)) in
      let second = ones_same bits bits' (H + 4 + L * q) L (λ j l. same (H + 4 + L * q + j) q (omega arith) (second_owned q j l)) in
      reading_runs L H bits q (omega arith)
      ∙ ap (λ (k : ℕ). heard (k + ones_from bits (H + 4 + L * q) L) (2 * L)) first
      ∙ ap (λ (k : ℕ). heard (ones_from bits' (L * q) L + k) (2 * L)) second
      ∙ sym (reading_runs L H bits' q (omega arith))

  -- an indicator whose bits are all 0, or all 1, is read so
  pub alike_read : (bits : List ℕ) (q v : ℕ) → q < N → (v ≡ 0) ⊎ (v ≡ 1)
      → ((p : ℕ) → p < bits_in H → owner_at L H p ≡ owned q → as_bit (get_or bits p 0) ≡ v)
      → reading_of L H bits q ≡ v
  alike_read bits q v h is all =
      let ends = run_within L N q h in
      let a = L * q in
      let b = H + 4 + L * q in
      let both : v * L + v * L ≡ v * (2 * L) =
      omega (arith, mul_assoc v 2 L, mul_comm v 2, mul_assoc 2 v L) in
      let first = ones_all bits a L v (λ j l. all (a + j) (omega arith) (first_owned q j h l)) in
      let second = ones_all bits b L v (λ j l. all (b + j) (omega arith) (second_owned q j l)) in
      reading_runs L H bits q (omega arith)
      ∙ ap (λ (k : ℕ). heard (k + ones_from bits (H + 4 + L * q) L) (2 * L)) first
      ∙ ap (λ (k : ℕ). heard (v * L + k) (2 * L)) second
      ∙ ap (λ (k : ℕ). heard k (2 * L)) both
      ∙ heard_all v (2 * L) (omega arith) is

  -- reading what was written gives the setting back, 0 or 1
  pub read_back : (settings rest : List ℕ) (q : ℕ) → q < N → reading_of L H (burst_of L N settings ++ rest) q ≡ as_bit (get_or settings q 0)
  read_back settings rest q h =
      let v = get_or settings q 0 in
      alike_read (burst_of L N settings ++ rest) q (as_bit v) h (as_bit_cases v)
      (λ p l o. ap as_bit (owned_written L H N low whole settings rest p q l o) ∙ as_bit_again v)

-- the same of all readings of a frame
module _ (L N H : ℕ) (f : Fits L N H) where
  pub all_read_back : (settings rest : List ℕ) → readings_of L N H (burst_of L N settings ++ rest) ≡ run (λ (i : ℕ). as_bit (get_or settings (i - 1) 0)) N
  unfolding readings_of
  all_read_back settings rest =
      row_same (reading_of L H (burst_of L N settings ++ rest)) (λ (q : ℕ). as_bit (get_or settings q 0)) N (read_back L H N f.low f.whole settings rest)

  pub none_reserved_read : (bits bits' : List ℕ) → ((p q : ℕ) → p < bits_in H → owner_at L H p ≡ owned q → as_bit (get_or bits p 0) ≡ as_bit (get_or bits' p 0)) → readings_of L N H bits ≡ readings_of L N H bits'
  unfolding readings_of
  none_reserved_read bits bits' same = row_same (reading_of L H bits) (reading_of L H bits') N (reserved_unread L H N f.low f.whole bits bits' same)

-- the same of the calls: where `page` answers, `read_page` of what it left answers with the settings, 0 or 1
pub there_and_back : (burst L : ℕ) (settings rest out : List ℕ) → first_of (pich_refusals burst L) ≡ 0 → Holds out (per_frame L (half_of burst))
    → read_page_outcome burst L (burst_of L (per_frame L (half_of burst)) settings ++ rest) out
    ≡ (answered (per_frame L (half_of burst)) leaving (run (λ (i : ℕ). as_bit (get_or settings (i - 1) 0)) (per_frame L (half_of burst)) ++ drop (per_frame L (half_of burst)) out))
unfolding read_page_outcome too_short first_of
there_and_back burst L settings rest out z room =
    let H = half_of burst in
    let N = per_frame L H in
    let f = fits burst L z in
    let bits = burst_of L N settings ++ rest in
    let size = burst_length L H N f.low f.whole settings rest in
    let passes : (too_short (bits_in H) bits || too_short N out) ≡ false = simp (le-ltb (length bits) (bits_in H) size, le-ltb (length out) N room) in
    let none = append_passes (pich_refusals burst L) _ (pich_numbered burst L) z ∙ first_passes 11 _ [] passes in
    sym (answered_leaving 0 _ N N out _ _ (sym none) refl refl (ap (λ (l : List ℕ). l ++ drop N out) (sym (all_read_back L N H f settings rest))))

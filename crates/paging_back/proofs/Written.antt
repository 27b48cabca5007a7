-- What a written burst holds at each place: its owner's setting, and 0 where it is reserved. So the question who owns a bit agrees with the bits that are written.
-- Said over run length L, half H and number N, with N runs filling a half. Assumes nothing.
use mathlib.Core.Path.{◌≡◌, sym, ap, ◌∙◌, subst}
use mathlib.Core.List.{List, ◌++◌}
use mathlib.Core.Logic.{⊎_elim}
use Prim.Native.Nat.{ℕ, zero, suc, ◌+◌, ◌-◌, ◌*◌, ◌/◌, ◌<◌, ◌≤◌}
use native.Mathlib.Nat.{suc-mul, mul_comm}
use native.Mathlib.Omega.{arith}
use lib.ListN.{get_or, length, replicate, length-append, length-replicate, get_or-replicate, get_or-append}
use lib.Seq.{get_or-append-add}
use Rattle.laws.proofs.Cases.{below_or_not}
use Rattle.paging_bits.specs.Bits.{bits_in, as_bit, runs_of, burst_of}
use Rattle.paging_bits.proofs.OneRun.{run_owner}
use Rattle.paging_bits.proofs.Runs.{runs_length}
use Rattle.paging.specs.Paging.{reserved, owned, owner_at}
use Rattle.paging.proofs.Places as places
use Rattle.paging_back.specs.Back.{bit_by}

-- what stands behind a list that is n long
behind : (s t : List ℕ) (n i : ℕ) → length s ≡ n → get_or (s ++ t) (n + i) 0 ≡ get_or t i 0
behind s t n i e = ap (λ (k : ℕ). get_or (s ++ t) (k + i) 0) (sym e) ∙ get_or-append-add s t i 0

-- the bits of the runs: at place p its owner's setting. Over run length and number alone
pub runs_at : (L : ℕ) → 1 ≤ L → (settings : List ℕ) (N p : ℕ) → p < N * L → get_or (runs_of L settings N) p 0 ≡ as_bit (get_or settings (p / L) 0)
unfolding runs_of
runs_at L low settings zero p h = absurd (omega arith)
runs_at L low settings (suc n) p h =
    let front = runs_of L settings n in
    let bit = as_bit (get_or settings n 0) in
    let size : length front ≡ n * L = runs_length L settings n in
    let all : suc n * L ≡ n * L + L = suc-mul n L in
    ⊎_elim
    (λ (l : p < n * L). get_or-append front (replicate L bit) 0 p (omega arith) ∙ runs_at L low settings n p l)
    (λ (l : n * L ≤ p).
    let j = p - n * L in
    let k : n * L + j ≡ p = omega arith in
    let mine : p / L ≡ n = ap (λ (m : ℕ). m / L) (sym k) ∙ subst (λ (m : ℕ). (m + j) / L ≡ n) (mul_comm L n) (run_owner L low n j (omega arith)) in
    ap (λ (m : ℕ). get_or (front ++ replicate L bit) m 0) (sym k) ∙ behind front (replicate L bit) (n * L) j size ∙ get_or-replicate L j bit 0 (omega arith)
    ∙ ap (λ (m : ℕ). as_bit (get_or settings m 0)) (sym mine))
    (below_or_not p (n * L))

module _ (L H N : ℕ) (low : 1 ≤ L) (whole : N * L ≡ H) (settings rest : List ℕ) where
  -- a burst is as long as it says, and more where more follows
  pub burst_length : bits_in H ≤ length (burst_of L N settings ++ rest)
  unfolding burst_of
  burst_length =
      let runs = runs_of L settings N in
      omega (arith, runs_length L settings N, length-append (runs ++ replicate 4 0 ++ runs) rest, length-append (runs ++ replicate 4 0) runs, length-append runs (replicate 4 0), length-replicate {A = ℕ} 4 0)

  -- every place of a burst holds what its owner makes of it, also where more bytes follow the burst
  pub written_by_owner : (p : ℕ) → p < bits_in H → get_or (burst_of L N settings ++ rest) p 0 ≡ bit_by settings (owner_at L H p)
  unfolding burst_of bit_by
  written_by_owner p h =
      let runs = runs_of L settings N in
      let front = runs ++ replicate 4 0 in
      let size : length runs ≡ H = runs_length L settings N ∙ whole in
      let long : length front ≡ H + 4 = omega (arith, length-append runs (replicate 4 0), length-replicate {A = ℕ} 4 0) in
      get_or-append (front ++ runs) rest 0 p (omega (arith, length-append front runs))
      ∙ ⊎_elim
      (λ (l : p < H).
      get_or-append front runs 0 p (omega arith) ∙ get_or-append runs (replicate 4 0) 0 p (omega arith) ∙ runs_at L low settings N p (omega arith)
      ∙ ap (bit_by settings) (sym (places.owner_first L H p l)))
      (λ (l : H ≤ p).
      ⊎_elim
      (λ (m : p < H + 4).
      let k : H + (p - H) ≡ p = omega arith in
      get_or-append front runs 0 p (omega arith) ∙ ap (λ (i : ℕ). get_or front i 0) (sym k) ∙ behind runs (replicate 4 0) H (p - H) size
      ∙ get_or-replicate 4 (p - H) 0 0 (omega arith) ∙ ap (bit_by settings) (sym (places.owner_between L H p l m)))
      (λ (m : H + 4 ≤ p).
      let k : H + 4 + (p - (H + 4)) ≡ p = omega arith in
      ap (λ (i : ℕ). get_or (front ++ runs) i 0) (sym k) ∙ behind front runs (H + 4) (p - (H + 4)) long
      ∙ runs_at L low settings N (p - (H + 4)) (omega arith) ∙ ap (bit_by settings) (sym (places.owner_second L H p m)))
      (below_or_not p (H + 4)))
      (below_or_not p H)

  -- the bit at an owned place is its owner's setting
  pub owned_written : (p q : ℕ) → p < bits_in H → owner_at L H p ≡ owned q → get_or (burst_of L N settings ++ rest) p 0 ≡ as_bit (get_or settings q 0)
  unfolding bit_by
  owned_written p q h e = written_by_owner p h ∙ ap (bit_by settings) e

  -- "reserved and written 0"
  pub reserved_written : (p : ℕ) → p < bits_in H → owner_at L H p ≡ reserved → get_or (burst_of L N settings ++ rest) p 0 ≡ 0
  unfolding bit_by
  reserved_written p h e = written_by_owner p h ∙ ap (bit_by settings) e

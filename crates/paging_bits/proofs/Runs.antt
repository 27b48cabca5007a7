-- Runs of L bits, one for each setting: how long they are, a turn of the loop that puts them in, and the frame that they make. Laws over run length and number alone.
-- Cited by the proofs of the functions that write. Assumes nothing.
use mathlib.Core.Path.{◌≡◌, sym, ap, ◌∙◌}
use mathlib.Core.List.{List, ◌++◌, append_assoc}
use Prim.Native.Nat.{ℕ, zero, suc, ◌+◌, ◌*◌}
use native.Mathlib.Nat.{suc-mul, sub-zero}
use native.Mathlib.Numerals.{add-one}
use native.Mathlib.Omega.{arith}
use lib.ListN.{length, get_or, take, drop, replicate, length-append, length-replicate}
use lib.Seq.{paste, take-append-le, take_at, drop_at, drop-drop}
use borrow.Rule.Slice.PartMut.{put_mid}
use Rattle.std.specs.List.{copy_within}
use Rattle.paging_bits.specs.Bits.{bits_in, as_bit, runs_of, burst_of}

-- the next run begins where run q ends
pub run_next : (L q : ℕ) → (q + 1) * L ≡ q * L + L
run_next L q = ap (λ (n : ℕ). n * L) (add-one q) ∙ suc-mul q L

module _ (L : ℕ) (settings : List ℕ) where
  pub runs_length : (n : ℕ) → length (runs_of L settings n) ≡ n * L
  unfolding runs_of
  runs_length zero = omega arith
  runs_length (suc n) =
      omega (arith, length-append (runs_of L settings n) (replicate L (as_bit (get_or settings n 0))), length-replicate L (as_bit (get_or settings n 0)), runs_length n, suc-mul n L)

  -- a turn: the next run is put in behind the others
  pub runs_turn : (q k v : ℕ) (d out one : List ℕ) → out ≡ runs_of L settings q ++ drop (q * L) d → k ≡ L → v ≡ as_bit (get_or settings q 0) → one ≡ replicate L v
      → put_mid (q * L) k out one ≡ runs_of L settings (q + 1) ++ drop ((q + 1) * L) d
  unfolding runs_of
  runs_turn q k v d out one e same is m =
      let runs = runs_of L settings q in
      let bit = as_bit (get_or settings q 0) in
      let next : q * L + L ≡ (q + 1) * L = sym (run_next L q) in
      let before : take (q * L) out ≡ runs = ap (take (q * L)) e ∙ take_at runs (drop (q * L) d) (q * L) (runs_length q) in
      let behind : drop (q * L) out ≡ drop (q * L) d = ap (drop (q * L)) e ∙ drop_at runs (drop (q * L) d) (q * L) (runs_length q) in
      let rest : drop k (drop (q * L) out) ≡ drop ((q + 1) * L) d =
      ap (λ (n : ℕ). drop n (drop (q * L) out)) same ∙ ap (drop L) behind ∙ drop-drop L (q * L) d ∙ ap (λ (n : ℕ). drop n d) next in
      ap (λ (l : List ℕ). l ++ (one ++ drop k (drop (q * L) out))) before
      ∙ ap (λ (l : List ℕ). runs ++ (l ++ drop k (drop (q * L) out))) (m ∙ ap (replicate L) is)
      ∙ ap (λ (l : List ℕ). runs ++ (replicate L bit ++ l)) rest
      ∙ sym (append_assoc runs (replicate L bit) (drop ((q + 1) * L) d))
      ∙ ap (λ (n : ℕ). runs_of L settings n ++ drop ((q + 1) * L) d) (sym (add-one q))

  -- a frame: the first half, the reserved four, and the first half once more
  pub burst_put : (N H k : ℕ) (d one four : List ℕ) → N * L ≡ H → k ≡ 4 → one ≡ runs_of L settings N ++ drop (N * L) d → four ≡ replicate 4 0
      → copy_within (put_mid H k one four) 0 H (H + 4) ≡ burst_of L N settings ++ drop (bits_in H) d
  unfolding burst_of
  burst_put N H k d one four whole same e zeros =
      let two = put_mid H k one four in
      let runs = runs_of L settings N in
      let front = runs ++ replicate 4 0 in
      let size : length runs ≡ H = runs_length N ∙ whole in
      let long : length front ≡ H + 4 = omega (arith, size, length-append runs (replicate 4 0), length-replicate {A = ℕ} 4 0) in
      let start : one ≡ runs ++ drop H d = e ∙ ap (λ (n : ℕ). runs ++ drop n d) whole in
      let before : take H one ≡ runs = ap (take H) start ∙ take_at runs (drop H d) H size in
      let behind : drop k (drop H one) ≡ drop (H + 4) d = ap (λ (n : ℕ). drop n (drop H one)) same ∙ ap (λ (l : List ℕ). drop 4 (drop H l)) start ∙ ap (drop 4) (drop_at runs (drop H d) H size) ∙ drop-drop 4 H d in
      let made : two ≡ front ++ drop (H + 4) d =
      ap (λ (l : List ℕ). l ++ (four ++ drop k (drop H one))) before
      ∙ ap (λ (l : List ℕ). runs ++ (l ++ drop k (drop H one))) zeros
      ∙ ap (λ (l : List ℕ). runs ++ (replicate 4 0 ++ l)) behind
      ∙ sym (append_assoc runs (replicate 4 0) (drop (H + 4) d)) in
      let kept : take (H + 4) two ≡ front = ap (take (H + 4)) made ∙ take_at front (drop (H + 4) d) (H + 4) long in
      let half : take H two ≡ runs = ap (take H) made ∙ take-append-le H front (drop (H + 4) d) (omega arith) ∙ take_at runs (replicate 4 0) H size in
      let rest : drop (H + 4 + H) two ≡ drop (H + 4 + H) d =
      sym (drop-drop H (H + 4) two) ∙ ap (λ (l : List ℕ). drop H (drop (H + 4) l)) made ∙ ap (drop H) (drop_at front (drop (H + 4) d) (H + 4) long) ∙ drop-drop H (H + 4) d in
      ap (λ (n : ℕ). paste two (H + 4) two n) (sub-zero H)
      ∙ ap (λ (l : List ℕ). l ++ take H two ++ drop (H + 4 + H) two) kept ∙ ap (λ (l : List ℕ). front ++ l ++ drop (H + 4 + H) two) half ∙ ap (λ (l : List ℕ). front ++ runs ++ l) rest

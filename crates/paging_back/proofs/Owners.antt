-- Place and owner are inverse to each other: each carrying bit has one owner, each indicator 2L bits, and a reserved bit none.
-- Said over run length L, half H and number N, with N runs filling a half. Assumes nothing.
use mathlib.Core.Path.{◌≡◌, sym, ap, ◌∙◌, subst}
use mathlib.Core.Bool.{Bool}
use mathlib.Core.Logic.{◌⊎◌, inl, inr, ⊎_elim}
use Prim.Native.Nat.{ℕ, ◌+◌, ◌-◌, ◌*◌, ◌/◌, ◌%◌, ◌<◌, ◌≤◌}
use native.Mathlib.Nat.{mod-lt}
use native.Mathlib.Omega.{arith}
use lib.Dec.{eqb}
use Rattle.laws.proofs.Cases.{below_or_not}
use Rattle.paging_bits.specs.Bits.{bits_in, per_frame, first_run, second_run, in_time}
use Rattle.paging_bits.specs.Inside.{Fits}
use Rattle.paging_bits.proofs.OneRun.{run_within, run_owner, owner_run, owner_below}
use Rattle.paging_bits.proofs.Counted.{time_first, time_second}
use Rattle.paging.specs.Paging.{place_of, reserved, owned, owner_at}
use Rattle.paging.proofs.Places as places
use Rattle.paging_back.specs.Back.{In, Named, q_of, owner_is}
use Rattle.paging_back.proofs.Tally.{tally, tally_same, tally_none, tally_split, run_tally}

-- carrying bit b is one of indicator q's: "L bits from Lq, and L bits from half the carrying bits plus Lq"
abbrev pub Has : ℕ → ℕ → ℕ → ℕ → Type 0
Has L H q b = (j : ℕ) × (j < L) × ((b ≡ first_run L q + j) ⊎ (b ≡ second_run L H q + j))

-- the owner of each kind of place
pub owner_first : (L H b : ℕ) → b < H → owner_at L H b ≡ owned (b / L)
owner_first = places.owner_first

pub owner_second : (L H b : ℕ) → owner_at L H (H + 4 + b) ≡ owned (b / L)
owner_second L H b =
    let e : H + 4 + b - (H + 4) ≡ b = omega arith in
    places.owner_second L H (H + 4 + b) (omega arith) ∙ ap (λ (k : ℕ). owned (k / L)) e

pub owner_reserved : (L H i : ℕ) → i < 4 → owner_at L H (H + i) ≡ reserved
owner_reserved L H i h = places.owner_between L H (H + i) (omega arith) (omega arith)

-- an owned place is of the first half or of the second
pub place_cases : (L H p q : ℕ) → p < bits_in H → owner_at L H p ≡ owned q → (p < H) ⊎ ((b : ℕ) × (b < H) × (H + 4 + b ≡ p))
place_cases L H p q h e =
    ⊎_elim inl
    (λ (l : H ≤ p).
    ⊎_elim
    (λ (m : p < H + 4). let o = places.owner_between L H p l m in let z : ◌≡◌ {A = ℕ} 0 1 = cc in absurd (omega arith))
    (λ (m : H + 4 ≤ p). inr (p - (H + 4), omega arith, omega arith))
    (below_or_not p (H + 4)))
    (below_or_not p H)

module _ (L H N : ℕ) (low : 1 ≤ L) (whole : N * L ≡ H) where
  -- place, then owner: q owns each of its bits
  pub has_owned : (q b : ℕ) → q < N → Has L H q b → owner_at L H (in_time H b) ≡ owned q
  has_owned q b h (j, l, e) =
      let ends = run_within L N q h in
      ⊎_elim
      (λ (e : b ≡ L * q + j).
      ap (λ (k : ℕ). owner_at L H (in_time H k)) e ∙ ap (owner_at L H) (time_first H (L * q + j) (omega arith))
      ∙ owner_first L H (L * q + j) (omega arith) ∙ ap owned (run_owner L low q j l))
      (λ (e : b ≡ H + L * q + j).
      let k : b ≡ H + (L * q + j) = omega arith in
      ap (λ (k : ℕ). owner_at L H (in_time H k)) k ∙ ap (owner_at L H) (time_second H (L * q + j)) ∙ owner_second L H (L * q + j) ∙ ap owned (run_owner L low q j l))
      e

  -- a place of a half lies in its owner's run
  in_run : (p : ℕ) → p < H → (p / L < N) × ((j : ℕ) × (j < L) × (p ≡ L * (p / L) + j))
  in_run p h = let r = owner_run L low p in (owner_below L low N p (omega arith), (p - L * (p / L), omega arith, omega arith))

  -- owner, then place: an owned place is that of one of its owner's bits
  pub owned_has : (p q : ℕ) → p < bits_in H → owner_at L H p ≡ owned q → (q < N) × ((b : ℕ) × (Has L H q b) × (in_time H b ≡ p))
  owned_has p q h e =
      ⊎_elim
      (λ (l : p < H).
      let o = owner_first L H p l in
      let k : p / L ≡ q = cc in
      let r = in_run p l in
      subst (λ (q : ℕ). (q < N) × ((b : ℕ) × (Has L H q b) × (in_time H b ≡ p))) k (r.0, (p, (r.1.0, r.1.1, inl r.1.2), time_first H p l)))
      (λ (w : (b : ℕ) × (b < H) × (H + 4 + b ≡ p)).
      let b = w.0 in
      let o : owner_at L H p ≡ owned (b / L) = ap (owner_at L H) (sym w.2) ∙ owner_second L H b in
      let k : b / L ≡ q = cc in
      let r = in_run b w.1 in
      subst (λ (q : ℕ). (q < N) × ((b : ℕ) × (Has L H q b) × (in_time H b ≡ p))) k
      (r.0, (H + b, (r.1.0, r.1.1, inr (omega (arith, r.1.2))), time_second H b ∙ w.2)))
      (place_cases L H p q h e)

  -- in time order it lies in its owner's first run, or in the second
  pub owned_run : (p q : ℕ) → p < bits_in H → owner_at L H p ≡ owned q
      → (q < N) × ((j : ℕ) × (j < L) × ((L * q + j ≡ p) ⊎ (H + 4 + L * q + j ≡ p)))
  owned_run p q h e =
      let (below, (b, (j, l, w), at)) = owned_has p q h e in
      let ends = run_within L N q below in
      let run : (L * q + j ≡ p) ⊎ (H + 4 + L * q + j ≡ p) =
      ⊎_elim
      (λ (k : b ≡ L * q + j). inl (omega (arith, time_first H b (omega arith))))
      (λ (k : b ≡ H + L * q + j).
      let m : H + (L * q + j) ≡ b = omega arith in
      inr (omega (arith, time_second H (L * q + j), ap (in_time H) m)))
      w in
      (below, (j, l, run))

  -- each carrying bit has an owner, and only one
  pub every_bit_owned : (b : ℕ) → b < H + H → (q : ℕ) × (q < N) × Has L H q b
  every_bit_owned b h =
      ⊎_elim (λ (l : b < H). let r = in_run b l in (b / L, r.0, (r.1.0, r.1.1, inl r.1.2)))
      (λ (l : H ≤ b).
      let r = in_run (b - H) (omega arith) in ((b - H) / L, r.0, (r.1.0, r.1.1, inr (omega (arith, r.1.2)))))
      (below_or_not b H)

  pub one_owner : (q q' b : ℕ) → q < N → q' < N → Has L H q b → Has L H q' b → q ≡ q'
  one_owner q q' b h h' x y = let e = has_owned q b h x in let e' = has_owned q' b h' y in cc

  -- each indicator has 2L bits of the burst
  pub bits_of_each : (q : ℕ) → q < N → tally (λ (p : ℕ). owner_is q (owner_at L H p)) (bits_in H) ≡ 2 * L
  unfolding owner_is
  bits_of_each q h =
      let test : ℕ → Bool = λ p. owner_is q (owner_at L H p) in
      let half : tally (λ (p : ℕ). eqb q (p / L)) H ≡ L = subst (λ (n : ℕ). tally (λ (p : ℕ). eqb q (p / L)) n ≡ L) whole (run_tally L low N q h) in
      let first = tally_same test (λ (p : ℕ). eqb q (p / L)) H (λ p l. ap (owner_is q) (owner_first L H p l)) in
      let between = tally_none (λ (i : ℕ). test (H + i)) 4 (λ i l. ap (owner_is q) (owner_reserved L H i l)) in
      let second = tally_same (λ (i : ℕ). test (H + 4 + i)) (λ (p : ℕ). eqb q (p / L)) H (λ b l. ap (owner_is q) (owner_second L H b)) in
      omega (arith, tally_split test (H + 4) H, tally_split test H 4)

-- the same of the calls' definitions: the bits that `place_of` names are those that its q owns
module _ (L H : ℕ) (f : Fits L (per_frame L H) H) (PI : ℕ) where
  within : PI % per_frame L H < per_frame L H
  within = mod-lt PI f.some

  pub owned_placed : (p : ℕ) → p < bits_in H → owner_at L H p ≡ owned (q_of (place_of L H PI)) → (b : ℕ) × (Named b (place_of L H PI)) × (in_time H b ≡ p)
  unfolding Named In q_of place_of
  owned_placed p h e =
      let o = (owned_has L H (per_frame L H) f.low f.whole p (PI % per_frame L H) h e).1 in
      let j = o.1.0 in
      (o.0, ⊎_elim (λ k. inl (j, o.1.1, k)) (λ k. inr (j, o.1.1, k)) o.1.2, o.2)

  pub placed_owned : (b : ℕ) → Named b (place_of L H PI) → owner_at L H (in_time H b) ≡ owned (q_of (place_of L H PI))
  unfolding Named In q_of place_of
  placed_owned b n =
      has_owned L H (per_frame L H) f.low f.whole (PI % per_frame L H) b within
      (⊎_elim (λ i. (i.0, i.1, inl i.2)) (λ i. (i.0, i.1, inr i.2)) n)

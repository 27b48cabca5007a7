-- What a reading says of its indicator's bits, and what they say of it: 0 where all are 0, 1 where
-- all are 1, 2 where two of them differ. Cited by the theorems over `read_page`.
-- Said over run length L, half H and number N, with N runs filling a half. Assumes nothing.
use mathlib.Core.Path.{◌≡◌, refl, sym, ap, ◌∙◌}
use mathlib.Core.List.{List}
use mathlib.Core.Logic.{◌⊎◌, inl, inr, ⊎_elim}
use Prim.Native.Nat.{ℕ, ◌+◌, ◌*◌, ◌<◌, ◌≤◌}
use native.Mathlib.Omega.{arith}
use lib.ListN.{get_or, length}
use Rattle.paging_bits.specs.Bits.{bits_in, ones_from, heard, reading_of}
use Rattle.paging_bits.proofs.OneRun.{run_within}
use Rattle.paging_bits.proofs.Counted.{as_bit_most, ones_most, reading_runs}
use Rattle.paging.specs.Paging.{owned, owner_at}
use Rattle.paging_back.specs.Back.{bit_at}
use Rattle.paging_back.proofs.Counted.{alike_or_not, ones_with}
use Rattle.paging_back.proofs.Heard.{heard_none, heard_full, heard_else}
use Rattle.paging_back.proofs.Owners.{owned_run}
use Rattle.paging_back.proofs.Readings.{first_owned, second_owned, alike_read}

-- bit p of the burst is q's
abbrev pub Mine : ℕ → ℕ → ℕ → ℕ → Type 0
Mine L H q p = (p < bits_in H) × (owner_at L H p ≡ owned q)

module _ (L H N : ℕ) (low : 1 ≤ L) (whole : N * L ≡ H) (bits : List ℕ)
    (q : ℕ) (inside : q < N) where
  -- a bit of q that is not v
  abbrev Other : ℕ → Type 0
  Other v = (p : ℕ) × (Mine L H q p) × (bit_at bits p ≡ v → ⊥)

  -- all of them are v, or there is one that is not
  all_or_one : (v : ℕ) → ((p : ℕ) → Mine L H q p → bit_at bits p ≡ v) ⊎ Other v
  all_or_one v =
      let ends = run_within L N q inside in
      ⊎_elim
      (λ first.
      ⊎_elim
      (λ second.
      inl (λ p m.
      let o = owned_run L H N low whole p q m.0 m.1 in
      ⊎_elim (λ k. ap (bit_at bits) (sym k) ∙ first o.1.0 o.1.1)
      (λ k. ap (bit_at bits) (sym k) ∙ second o.1.0 o.1.1) o.1.2))
      (λ (j, l, d). inr (H + 4 + L * q + j, (omega arith, second_owned L H N low whole q j l), d))
      (alike_or_not bits (H + 4 + L * q) L v))
      (λ (j, l, d). inr (L * q + j, (omega arith, first_owned L H N low whole q j inside l), d))
      (alike_or_not bits (L * q) L v)

  -- a torn indicator has one that is not 0, and one that is not 1
  pub torn_other : (v : ℕ) → (v ≡ 0) ⊎ (v ≡ 1) → reading_of L H bits q ≡ 2 → Other v
  torn_other v is e =
      ⊎_elim
      (λ all.
      let r = alike_read L H N low whole bits q v inside is (λ p l o. all p (l, o)) in
      absurd (⊎_elim (λ (z : v ≡ 0). omega arith) (λ (z : v ≡ 1). omega arith) is))
      (λ one. one)
      (all_or_one v)

  -- how many of its bits are 1
  abbrev ones : ℕ
  ones = ones_from bits (L * q) L + ones_from bits (H + 4 + L * q) L

  from_ones : reading_of L H bits q ≡ heard ones (2 * L)
  from_ones = let ends = run_within L N q inside in reading_runs L H bits q (omega arith)

  module _ (long : bits_in H ≤ length bits) where
    -- each that is 1 counts among these, and one that is 0 is missing there
    counts : (p : ℕ) → Mine L H q p → (bit_at bits p ≤ ones) × (ones + 1 ≤ 2 * L + bit_at bits p)
    counts p m =
        let o = owned_run L H N low whole p q m.0 m.1 in
        let ends = run_within L N q inside in
        let j = o.1.0 in
        let l : j < L = o.1.1 in
        ⊎_elim
        (λ (k : L * q + j ≡ p).
        let w = ones_with bits (L * q) L j l (omega arith) in
        let b = ap (bit_at bits) k in
        (omega arith, omega (arith, ones_most bits (H + 4 + L * q) L)))
        (λ (k : H + 4 + L * q + j ≡ p).
        let w = ones_with bits (H + 4 + L * q) L j l (omega arith) in
        let b = ap (bit_at bits) k in
        (omega arith, omega (arith, ones_most bits (L * q) L)))
        o.1.2

    -- read as off or on: so are all its bits
    pub read_alike : (v : ℕ) → (v ≡ 0) ⊎ (v ≡ 1) → reading_of L H bits q ≡ v
        → (p : ℕ) → Mine L H q p → bit_at bits p ≡ v
    read_alike v is e p m =
        let c = counts p m in
        let r = from_ones in
        let most = as_bit_most (get_or bits p 0) in
        ⊎_elim
        (λ (z : v ≡ 0). let n = heard_none ones (2 * L) (omega arith) (omega arith) in omega arith)
        (λ (z : v ≡ 1). let n = heard_full ones (2 * L) (omega arith) in omega arith)
        is

    -- two that differ are read neither as off nor as on
    pub differ_torn : (p p' : ℕ) → Mine L H q p → Mine L H q p' → (bit_at bits p ≡ bit_at bits p' → ⊥)
        → reading_of L H bits q ≡ 2
    differ_torn p p' m m' d =
        let not : (v : ℕ) → (v ≡ 0) ⊎ (v ≡ 1) → heard ones (2 * L) ≡ v → ⊥ =
        λ v is e.
        let r = from_ones ∙ e in
        d (read_alike v is r p m ∙ sym (read_alike v is r p' m')) in
        from_ones ∙ heard_else ones (2 * L) (omega arith) (not 0 (inl refl)) (not 1 (inr refl))

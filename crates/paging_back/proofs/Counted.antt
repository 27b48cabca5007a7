-- How many bits of one run are 1: where bits agree, where all are alike, and what a changed bit makes of it. Laws over the run's first place and its length.
-- Assumes nothing.
use mathlib.Core.Path.{◌≡◌, refl, sym, ap, ◌∙◌}
use mathlib.Core.List.{List}
use mathlib.Core.Logic.{◌⊎◌, inl, inr, ⊎_elim}
use Prim.Native.Nat.{ℕ, zero, suc, ◌+◌, ◌*◌, ◌<◌, ◌≤◌}
use native.Mathlib.Nat.{eq-or-lt_of_le, mul-zero, mul-suc}
use native.Mathlib.Omega.{arith}
use lib.ListN.{get_or, set, length}
use lib.Seq.{get_or-set_same, get_or-set_other}
use Rattle.laws.proofs.Cases.{equal_or_not}
use Rattle.paging_bits.specs.Bits.{as_bit, ones_from}
use Rattle.paging_bits.proofs.Counted.{ones_most}

-- two bursts that agree on a run have as many ones there
pub ones_same : (bits bits' : List ℕ) (a n : ℕ) → ((j : ℕ) → j < n → as_bit (get_or bits (a + j) 0) ≡ as_bit (get_or bits' (a + j) 0)) → ones_from bits a n ≡ ones_from bits' a n
unfolding ones_from
ones_same bits bits' a zero h = refl
ones_same bits bits' a (suc n) h = omega (arith, ones_same bits bits' a n (λ j l. h j (omega arith)), h n (omega arith))

-- a run whose bits are all v
pub ones_all : (bits : List ℕ) (a n v : ℕ) → ((j : ℕ) → j < n → as_bit (get_or bits (a + j) 0) ≡ v) → ones_from bits a n ≡ v * n
unfolding ones_from
ones_all bits a zero v h = sym (mul-zero v)
ones_all bits a (suc n) v h = omega (arith, ones_all bits a n v (λ j l. h j (omega arith)), h n (omega arith), mul-suc v n)

-- the bits of a run are all v, or there is one that is not
pub alike_or_not : (bits : List ℕ) (a n v : ℕ)
    → ((j : ℕ) → j < n → as_bit (get_or bits (a + j) 0) ≡ v)
    ⊎ ((j : ℕ) × (j < n) × (as_bit (get_or bits (a + j) 0) ≡ v → ⊥))
alike_or_not bits a zero v = inl (λ j l. absurd (omega arith))
alike_or_not bits a (suc n) v =
    ⊎_elim
    (λ (all : (j : ℕ) → j < n → as_bit (get_or bits (a + j) 0) ≡ v).
    ⊎_elim
    (λ (e : as_bit (get_or bits (a + n) 0) ≡ v).
    inl (λ j l.
    let k : j ≤ n = omega arith in
    ⊎_elim (λ (m : j ≡ n). ap (λ (i : ℕ). as_bit (get_or bits (a + i) 0)) m ∙ e) (all j)
    (eq-or-lt_of_le k)))
    (λ (d : as_bit (get_or bits (a + n) 0) ≡ v → ⊥). inr (n, omega arith, d))
    (equal_or_not (as_bit (get_or bits (a + n) 0)) v))
    (λ (j, l, d). inr (j, omega arith, d))
    (alike_or_not bits a n v)

module _ (bits : List ℕ) (p w : ℕ) where
  -- a changed bit leaves the other runs as they were
  pub ones_elsewhere : (a n : ℕ) → ((j : ℕ) → j < n → a + j ≡ p → ⊥) → ones_from (set bits p w) a n ≡ ones_from bits a n
  ones_elsewhere a n h = ones_same (set bits p w) bits a n (λ j l. ap as_bit (get_or-set_other bits p (a + j) w 0 (h j l)))

  -- and counts in its own, place a + i, by what it was and what it is
  pub ones_changed : (a n i : ℕ) → i < n → a + i ≡ p → p < length bits → ones_from (set bits p w) a n + as_bit (get_or bits p 0) ≡ ones_from bits a n + as_bit w
  unfolding ones_from
  ones_changed a zero i l e h = absurd (omega arith)
  ones_changed a (suc n) i l e h =
      let k : i ≤ n = omega arith in
      ⊎_elim
      (λ (q : i ≡ n).
      let same = ones_elsewhere a n (λ j m d. omega arith) in
      let at : a + n ≡ p = omega arith in
      let new : as_bit (get_or (set bits p w) (a + n) 0) ≡ as_bit w = ap (λ (k : ℕ). as_bit (get_or (set bits p w) k 0)) at ∙ ap as_bit (get_or-set_same bits p w 0 h) in
      let old : as_bit (get_or bits (a + n) 0) ≡ as_bit (get_or bits p 0) = ap (λ (k : ℕ). as_bit (get_or bits k 0)) at in
      omega arith)
      (λ (m : i < n).
      let below = ones_changed a n i m e h in
      let same : as_bit (get_or (set bits p w) (a + n) 0) ≡ as_bit (get_or bits (a + n) 0) = ap as_bit (get_or-set_other bits p (a + n) w 0 (λ d. omega arith)) in
      omega arith)
      (eq-or-lt_of_le k)

-- a bit of a run that is 1 counts among its ones, and one that is 0 is missing there
pub ones_with : (bits : List ℕ) (a n i : ℕ) → i < n → a + i < length bits
    → (as_bit (get_or bits (a + i) 0) ≤ ones_from bits a n)
    × (ones_from bits a n + 1 ≤ n + as_bit (get_or bits (a + i) 0))
unfolding as_bit
ones_with bits a n i l h =
    let without = ones_changed bits (a + i) 0 a n i l refl h in
    let with' = ones_changed bits (a + i) 1 a n i l refl h in
    (omega arith, omega (arith, ones_most (set bits (a + i) 1) a n))

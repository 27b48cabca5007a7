-- Document 01, "The class book": "overlap is a shared leaf", which the clash tests by first leaf
-- and number of leaves; and where it is, all leaves of one code are leaves of the other. Cited by
-- Clashes; else it is for the reader. Assumes nothing.
use mathlib.Core.Path.{◌≡◌}
use mathlib.Core.Bool.{true}
use mathlib.Core.Logic.{◌↔◌, ◌⊎◌, inl, inr, ⊎_elim}
use Prim.Native.Nat.{ℕ, ◌+◌, ◌-◌, ◌*◌, ◌/◌, ◌<◌, ◌≤◌}
use native.Mathlib.Omega.{arith}
use lib.Dec.{ltb}
use borrow.Author.Tests.{ltb-true, lt-ltb}
use Rattle.laws.proofs.Bools.{and_true, both}
use Rattle.laws.proofs.Cases.{below_or_not}
use Rattle.bookings.specs.declared.Booking.{Booking}
use Rattle.leaves.specs.Leaves.{leaves_of, first_leaf}
use Rattle.leaves.proofs.Masks.{covered, of_five}
use Rattle.bookings.specs.Bookings.{form_of, leaf, overlaps}
use Rattle.bookings.proofs.Formed.{formed}
use Rattle.facts.specs.Codes.{Good, Covers, SharedLeaf, Inside}

-- ---- a good code covers a leaf at least
leaves_low : (Q k : ℕ) → Good Q k → 1 ≤ 16 / Q
unfolding leaves_of
leaves_low Q k good = (covered Q k good).one_least

-- and none but the leaves 0 to 15
pub covers_leaves : (Q k : ℕ) → Good Q k → (l : ℕ) → Covers Q k l → l ≤ 15
unfolding Covers leaves_of first_leaf
covers_leaves Q k good l c = omega (arith, c.1, (covered Q k good).ends)

-- ---- two runs of leaves, m from a on and n from b on, where neither ends before the other begins
meet : (a m b n : ℕ) → 1 ≤ m → 1 ≤ n → a < b + n → b < a + m
    → (l : ℕ) × (((a ≤ l) × (l < a + m)) × ((b ≤ l) × (l < b + n)))
meet a m b n p q s t =
    ⊎_elim (λ h. (b, ((omega arith, t), (omega arith, omega arith))))
    (λ h. (a, ((omega arith, omega arith), (h, s)))) (below_or_not a b)

-- ---- two good codes that share a leaf: the one of fewer leaves, or as many, lies inside the other
module _ (Q k R j : ℕ) (gq : Good Q k) (gr : Good R j) where
  abbrev Within : ℕ → ℕ → Type 0
  Within q r = (u v : ℕ) → 16 / q ≤ 16 / r → u * (16 / q) < v * (16 / r) + 16 / r
      → v * (16 / r) < u * (16 / q) + 16 / q
      → (v * (16 / r) ≤ u * (16 / q)) × (u * (16 / q) + 16 / q ≤ v * (16 / r) + 16 / r)

  within : Within Q R
  within =
      of_five Q k gq (λ q. Within q R)
      (of_five R j gr (Within 1) (λ u v h s t. omega arith) (λ u v h s t. omega arith)
      (λ u v h s t. omega arith) (λ u v h s t. omega arith) (λ u v h s t. omega arith))
      (of_five R j gr (Within 2) (λ u v h s t. omega arith) (λ u v h s t. omega arith)
      (λ u v h s t. omega arith) (λ u v h s t. omega arith) (λ u v h s t. omega arith))
      (of_five R j gr (Within 4) (λ u v h s t. omega arith) (λ u v h s t. omega arith)
      (λ u v h s t. omega arith) (λ u v h s t. omega arith) (λ u v h s t. omega arith))
      (of_five R j gr (Within 8) (λ u v h s t. omega arith) (λ u v h s t. omega arith)
      (λ u v h s t. omega arith) (λ u v h s t. omega arith) (λ u v h s t. omega arith))
      (of_five R j gr (Within 16) (λ u v h s t. omega arith) (λ u v h s t. omega arith)
      (λ u v h s t. omega arith) (λ u v h s t. omega arith) (λ u v h s t. omega arith))

  inside_larger : 16 / Q ≤ 16 / R → SharedLeaf Q k R j → Inside Q k R j
  unfolding SharedLeaf Covers Inside
  inside_larger h s l c =
      let m = 16 / Q in
      let n = 16 / R in
      let a = (k - 1) * m in
      let b = (j - 1) * n in
      let first : a < b + n = omega (arith, s.1.0.0, s.1.1.1) in
      let last : b < a + m = omega (arith, s.1.1.0, s.1.0.1) in
      let w = within (k - 1) (j - 1) h first last in
      (omega (arith, w.0, c.0), omega (arith, w.1, c.1))

  -- the first leaf of a code that lies inside another is shared
  inside_shared : Inside Q k R j → SharedLeaf Q k R j
  unfolding SharedLeaf Covers Inside
  inside_shared i =
      let l = (k - 1) * (16 / Q) in
      let own : (l ≤ l) × (l < l + 16 / Q) = (omega arith, omega (arith, leaves_low Q k gq)) in
      (l, (own, i l own))

shared_back : (Q k R j : ℕ) → SharedLeaf Q k R j → SharedLeaf R j Q k
unfolding SharedLeaf
shared_back Q k R j s = (s.0, (s.1.1, s.1.0))

-- the codes are a tree: two share a leaf exactly when all leaves of one are leaves of the other
pub shared_inside : (Q k R j : ℕ) → Good Q k → Good R j
    → SharedLeaf Q k R j ↔ (Inside Q k R j ⊎ Inside R j Q k)
shared_inside Q k R j gq gr = (
  λ s.
      ⊎_elim (λ h. inr (inside_larger R j Q k gr gq (omega arith) (shared_back Q k R j s)))
      (λ h. inl (inside_larger Q k R j gq gr h s)) (below_or_not (16 / R) (16 / Q)),
  ⊎_elim (inside_shared Q k R j gq gr)
      (λ i. shared_back R j Q k (inside_shared R j Q k gr gq i)),
)

-- ---- two bookings of good codes, which every booking in form has
pub form_good : (x : Booking) → form_of x ≡ 0 → Good x.factor x.index
form_good x e = (formed x e).code_good

module _ (x y : Booking) (gx : Good x.factor x.index) (gy : Good y.factor y.index) where
  -- "overlap is a shared leaf"
  pub overlap_shared : (overlaps x y ≡ true)
      ↔ SharedLeaf x.factor x.index y.factor y.index
  unfolding overlaps first_leaf leaves_of SharedLeaf Covers
  overlap_shared =
      let m = leaves_of x.factor in
      let n = leaves_of y.factor in (
        λ e.
            let t = and_true (ltb (leaf x) (leaf y + n)) (ltb (leaf y) (leaf x + m)) e in
            meet (leaf x) m (leaf y) n (leaves_low x.factor x.index gx)
            (leaves_low y.factor y.index gy) (ltb-true _ _ t.0) (ltb-true _ _ t.1),
        λ s.
            both _ _ (lt-ltb (leaf x) (leaf y + n) (omega (arith, s.1.0.0, s.1.1.1)))
            (lt-ltb (leaf y) (leaf x + m) (omega (arith, s.1.1.0, s.1.0.1))),
      )

-- Patterns of 16 bits, bit by bit from the lowest: their or, and when their and is not 0. Cited by the crate slots.
-- Assumes nothing.
use mathlib.Core.Path.{◌≡◌, refl, ap, ◌∙◌}
use mathlib.Core.Bool.{Bool, true, false, not, ◌&&◌, ◌||◌, or-true}
use Prim.Native.Nat.{ℕ, zero, suc, ◌+◌, ◌*◌, ◌/◌, ◌%◌, ◌≤◌, ◌<◌, min, max}
use native.Mathlib.Nat.{not-suc-le-zero, le_of_suc-le-suc}
use native.Mathlib.Omega.{arith}
use lib.Bits.{bit_and, bit_or, and_step, or_step}
use lib.Dec.{eqb}
use borrow.Author.Tests.{ne_eqb, eq-eqb, eqb-true, eqb-false}
use mathlib.Core.Logic.{⊎_elim}
use Rattle.laws.specs.Lists.{one, total, some}
use Rattle.laws.proofs.Cases.{by_cases}
use Rattle.leaves.specs.Leaves.{the_leaves, pattern}

-- ---- a number by its bits, the lowest first
bits : (ℕ → Bool) → ℕ → ℕ
bits f zero = 0
bits f (suc n) = one (f 0) + 2 * bits (λ i. f (suc i)) n

as_bits : (f : ℕ → Bool) → pattern f ≡ bits f 16
unfolding pattern total bits
as_bits f = omega arith

bit_low : (b : Bool) → one b < 2
bit_low true = omega arith
bit_low false = omega arith

-- the last bit, and the others
module _ (d m : ℕ) (low : d < 2) where
  half : (d + 2 * m) / 2 ≡ m
  half = omega arith

  last : (d + 2 * m) % 2 ≡ d
  last = omega arith

max_or : (a b : Bool) → max (one a) (one b) ≡ one (a || b)
max_or true true = refl
max_or true false = refl
max_or false true = refl
max_or false false = refl

min_and : (a b : Bool) → min (one a) (one b) ≡ one (a && b)
min_and true true = refl
min_and true false = refl
min_and false true = refl
min_and false false = refl

turned : (m d : ℕ) → m * 2 + d ≡ d + 2 * m
turned m d = omega arith

or_bits : (n : ℕ) (f g : ℕ → Bool) → bit_or (bits f n) (bits g n) ≡ bits (λ i. f i || g i) n
unfolding bits
or_bits zero f g = refl
or_bits (suc n) f g =
    let x = one (f 0) in
    let y = one (g 0) in
    let m = bits (λ i. f (suc i)) n in
    let k = bits (λ i. g (suc i)) n in
    or_step (x + 2 * m) (y + 2 * k)
    ∙ rw (half x m (bit_low (f 0)), half y k (bit_low (g 0)), last x m (bit_low (f 0)), last y k (bit_low (g 0)), or_bits n (λ i. f (suc i)) (λ i. g (suc i)), max_or (f 0) (g 0)) (turned _ _)

and_bits : (n : ℕ) (f g : ℕ → Bool) → bit_and (bits f n) (bits g n) ≡ bits (λ i. f i && g i) n
unfolding bits
and_bits zero f g = refl
and_bits (suc n) f g =
    let x = one (f 0) in
    let y = one (g 0) in
    let m = bits (λ i. f (suc i)) n in
    let k = bits (λ i. g (suc i)) n in
    and_step (x + 2 * m) (y + 2 * k)
    ∙ rw (half x m (bit_low (f 0)), half y k (bit_low (g 0)), last x m (bit_low (f 0)), last y k (bit_low (g 0)), and_bits n (λ i. f (suc i)) (λ i. g (suc i)), min_and (f 0) (g 0)) (turned _ _)

alike_bits : (n : ℕ) (f g : ℕ → Bool) → ((i : ℕ) → f i ≡ g i) → bits f n ≡ bits g n
unfolding bits
alike_bits zero f g h = refl
alike_bits (suc n) f g h = rw (h 0, alike_bits n (λ i. f (suc i)) (λ i. g (suc i)) (λ i. h (suc i)))

-- ---- not 0 where a bit is set
one_set : (f : ℕ → Bool) → ℕ → Bool
one_set f zero = false
one_set f (suc n) = f 0 || one_set (λ i. f (suc i)) n

first_set : (b s : Bool) (r : ℕ) → not (eqb r 0) ≡ s → not (eqb (one b + 2 * r) 0) ≡ (b || s)
first_set true s r h = ap not (ne_eqb (1 + 2 * r) 0 (λ z. over r z))
  where
    over : (r : ℕ) → 1 + 2 * r ≡ 0 → ⊥
    over r z = omega arith
first_set false s r h = ap not (doubled r) ∙ h
  where
    doubled : (r : ℕ) → eqb (0 + 2 * r) 0 ≡ eqb r 0
    doubled r =
        ⊎_elim (λ t. eq-eqb (0 + 2 * r) 0 (omega (arith, eqb-true r 0 t)) ∙ rw t) (λ f. ne_eqb (0 + 2 * r) 0 (λ z. eqb-false r 0 f (omega arith)) ∙ rw f) (by_cases (eqb r 0))

bits_set : (n : ℕ) (f : ℕ → Bool) → not (eqb (bits f n) 0) ≡ one_set f n
unfolding bits one_set
bits_set zero f = refl
bits_set (suc n) f = first_set (f 0) (one_set (λ i. f (suc i)) n) (bits (λ i. f (suc i)) n) (bits_set n (λ i. f (suc i)))

pub pattern_set : (f : ℕ → Bool) → not (eqb (pattern f) 0) ≡ some f the_leaves
unfolding one_set some
pattern_set f = ap (λ (n : ℕ). not (eqb n 0)) (as_bits f) ∙ bits_set 16 f

-- a leaf at which the test holds is one
set_at : (n i : ℕ) (f : ℕ → Bool) → i < n → f i ≡ true → one_set f n ≡ true
unfolding one_set
set_at zero i f h e = absurd (not-suc-le-zero h)
set_at (suc n) zero f h e = rw e
set_at (suc n) (suc i) f h e = rw (set_at n i (λ j. f (suc j)) (le_of_suc-le-suc h) e) (or-true (f 0))

pub some_leaf : (f : ℕ → Bool) (i : ℕ) → i ≤ 15 → f i ≡ true → some f the_leaves ≡ true
unfolding one_set some
some_leaf f i h e = set_at 16 i f (omega arith) e

-- ---- patterns
pub pattern_alike : (f g : ℕ → Bool) → ((i : ℕ) → f i ≡ g i) → pattern f ≡ pattern g
pattern_alike f g h = rw (as_bits f, as_bits g) (alike_bits 16 f g h)

-- the or of two patterns has the leaves of both
pub or_pattern : (f g : ℕ → Bool) → bit_or (pattern f) (pattern g) ≡ pattern (λ i. f i || g i)
or_pattern f g = rw (as_bits f, as_bits g, as_bits (λ i. f i || g i)) (or_bits 16 f g)

-- their and is not 0 exactly where they share a leaf
pub and_pattern : (f g : ℕ → Bool) → not (eqb (bit_and (pattern f) (pattern g)) 0) ≡ some (λ i. f i && g i) the_leaves
and_pattern f g =
    let shared : bit_and (pattern f) (pattern g) ≡ pattern (λ i. f i && g i) = rw (as_bits f, as_bits g, as_bits (λ i. f i && g i)) (and_bits 16 f g) in
    ap (λ (n : ℕ). not (eqb n 0)) shared ∙ pattern_set (λ i. f i && g i)

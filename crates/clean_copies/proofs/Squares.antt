-- The argument on a clean copy (document 02, C-18), over any whole numbers: of four that add up to n, (a - c)² + (b - d)² is n² only if one of them is n, and is else
-- below n². Cited by proofs/Sums.antt. Assumes nothing.
use mathlib.Core.Path.{◌≡◌, refl, ap}
use mathlib.Core.Bool.{Bool, true, false, cond}
use mathlib.Core.Logic.{⊎_elim}
use Prim.Native.Nat.{ℕ, zero, suc, ◌+◌, ◌-◌, ◌*◌, ◌<◌, ◌≤◌}
use native.Mathlib.Nat.{mul-add, add-mul, mul-le-mul, mul-pos, eq_of_mul-eq-mul_left}
use native.Mathlib.Omega.{arith}
use lib.Dec.{ltb}
use lib.IntN.{pos, negsuc, nat_abs, ◌-ℤ◌}
use borrow.Author.Tests.{ltb-true, ltb-false}
use Rattle.laws.proofs.Cases.{equal_or_not}

-- a smaller number has the smaller square
square_below : (r n : ℕ) → r < n → r * r < n * n
square_below r n h = let m = mul-le-mul h h in omega (arith, add-mul r 1 (r + 1), mul-add r r 1)

-- two numbers that together do not exceed n, neither of them n: the square of their sum has both their squares, and twice their product more
two_squares : (r s n : ℕ) → r < n → s < n → r + s ≤ n → r * r + s * s < n * n
two_squares r s n hr hs h =
    ⊎_elim
    (λ (z : r ≡ 0). let e = ap (λ (x : ℕ). x * r) z in omega (arith, square_below s n hs))
    (λ (one : r ≡ 0 → ⊥).
    ⊎_elim
    (λ (z : s ≡ 0). let e = ap (λ (x : ℕ). x * s) z in omega (arith, square_below r n hr))
    (λ (two : s ≡ 0 → ⊥). more (omega arith) (omega arith))
    (equal_or_not s 0))
    (equal_or_not r 0)
  where
    more : 0 < r → 0 < s → r * r + s * s < n * n
    more p q = omega (arith, mul-le-mul h h, add-mul r s (r + s), mul-add r r s, mul-add s r s, mul-pos p q)

-- how far two numbers are from each other
abbrev apart : ℕ → ℕ → ℕ
apart a c = (a - c) + (c - a)

size : (a c : ℕ) → nat_abs (pos a -ℤ pos c) ≡ apart a c
size a zero = omega arith
size a (suc c) = by (ltb a (suc c)) refl
  where
    by : (b : Bool) → ltb a (suc c) ≡ b → nat_abs (cond b (negsuc (suc c - suc a)) (pos (a - suc c))) ≡ apart a (suc c)
    by true e = omega (arith, ltb-true a (suc c) e)
    by false e = omega (arith, ltb-false a (suc c) e)

apart_within : (a c : ℕ) → apart a c ≤ a + c
apart_within a c = omega arith

-- less than n, where neither is n and both together do not exceed it
apart_below : (a c n : ℕ) → a + c ≤ n → (a ≡ n → ⊥) → (c ≡ n → ⊥) → apart a c < n
apart_below a c n h na nc = omega arith

-- (a - c)² + (b - d)²
abbrev pub squares : ℕ → ℕ → ℕ → ℕ → ℕ
squares a b c d = let x = nat_abs (pos a -ℤ pos c) in let y = nat_abs (pos b -ℤ pos d) in x * x + y * y

below : (a b c d n : ℕ) → a + b + c + d ≡ n → (a ≡ n → ⊥) → (b ≡ n → ⊥) → (c ≡ n → ⊥) → (d ≡ n → ⊥) → squares a b c d < n * n
below a b c d n all na nb nc nd =
    rw (size a c, size b d)
    (two_squares (apart a c) (apart b d) n
    (apart_below a c n (omega arith) na nc)
    (apart_below b d n (omega arith) nb nd)
    (together (apart a c) (apart b d) (apart_within a c) (apart_within b d)))
  where
    together : (r s : ℕ) → r ≤ a + c → s ≤ b + d → r + s ≤ n
    together r s h g = omega arith

pub squares_below : (a b c d n : ℕ) → a + b + c + d ≡ n → (a ≡ n → ⊥) → (b ≡ n → ⊥) → (c ≡ n → ⊥) → (d ≡ n → ⊥) → squares a b c d < n * n
squares_below a b c d n all na nb nc nd = below a b c d n all na nb nc nd

-- the same at a level: all of them so many times
pub level_below : (level a b c d n : ℕ) → 1 ≤ level → a + b + c + d ≡ n → (a ≡ n → ⊥) → (b ≡ n → ⊥) → (c ≡ n → ⊥) → (d ≡ n → ⊥)
    → squares (level * a) (level * b) (level * c) (level * d) < level * n * (level * n)
level_below level a b c d n some all na nb nc nd =
    let whole = ap (λ (k : ℕ). level * k) all in
    let parts : level * a + level * b + level * c + level * d ≡ level * n = omega (arith, mul-add level (a + b + c) d, mul-add level (a + b) c, mul-add level a b) in
    below (level * a) (level * b) (level * c) (level * d) (level * n) parts (less a na) (less b nb) (less c nc) (less d nd)
  where
    less : (k : ℕ) → (k ≡ n → ⊥) → level * k ≡ level * n → ⊥
    less k d e = d (eq_of_mul-eq-mul_left level some k n e)

-- A total whose terms are all one number, and a difference to which a number is added, or from which one is taken.
-- Cited by proofs/Counts.antt and proofs/Sums.antt. Assumes nothing.
use mathlib.Core.Path.{◌≡◌, sym, ap, ◌∙◌}
use Prim.Native.Nat.{ℕ, zero, suc, ◌+◌, ◌*◌}
use native.Mathlib.Nat.{mul-zero, mul-suc}
use lib.IntN.{ℤ, pos, neg_ℤ, ◌+ℤ◌, ◌-ℤ◌, +ℤ_assoc, +ℤ_comm, neg_ℤ-+ℤ}
use Rattle.sums.specs.Totals.{total}

pub total_steady : (a n : ℕ) → total (λ (i : ℕ). pos a) n ≡ pos (a * n)
unfolding total
total_steady a zero = ap pos (sym (mul-zero a))
total_steady a (suc n) = ap (λ (z : ℤ). z +ℤ pos a) (total_steady a n) ∙ ap pos (sym (mul-suc a n))

pub more : (x y a : ℕ) → pos x -ℤ pos y +ℤ pos a ≡ pos (x + a) -ℤ pos y
more x y a =
    +ℤ_assoc (pos x) (neg_ℤ (pos y)) (pos a)
    ∙ ap (λ (z : ℤ). pos x +ℤ z) (+ℤ_comm (neg_ℤ (pos y)) (pos a))
    ∙ sym (+ℤ_assoc (pos x) (pos a) (neg_ℤ (pos y)))

pub less : (x y a : ℕ) → pos x -ℤ pos y +ℤ neg_ℤ (pos a) ≡ pos x -ℤ pos (y + a)
less x y a = +ℤ_assoc (pos x) (neg_ℤ (pos y)) (neg_ℤ (pos a)) ∙ ap (λ (z : ℤ). pos x +ℤ z) (sym (neg_ℤ-+ℤ (pos y) (pos a)))

-- A row of values g 0, g 1, ..: what stands in it, and when two are equal. Cited by the theorems on readings.
-- Assumes nothing.
use mathlib.Core.Path.{◌≡◌, refl, sym, ap, ◌∙◌}
use mathlib.Core.List.{List, [], ◌∷◌, ◌++◌}
use Prim.Native.Nat.{ℕ, zero, suc, ◌+◌, ◌-◌, ◌<◌}
use native.Mathlib.Omega.{arith}
use lib.ListN.{get_or}
use Rattle.laws.specs.Runs.{run}
use Rattle.laws.proofs.Runs.{run_at}

-- what stands at place p of such a row
pub row_at : (g : ℕ → ℕ) (n p : ℕ) → p < n → get_or (run (λ (i : ℕ). g (i - 1)) n) p 0 ≡ g p
row_at g n p h = let k : p + 1 - 1 ≡ p = omega arith in run_at (λ (i : ℕ). g (i - 1)) n p h ∙ ap g k

-- two rows are equal where their values are
pub row_same : (g h : ℕ → ℕ) (n : ℕ) → ((p : ℕ) → p < n → g p ≡ h p) → run (λ (i : ℕ). g (i - 1)) n ≡ run (λ (i : ℕ). h (i - 1)) n
unfolding run
row_same g h zero e = refl
row_same g h (suc n) e =
    let k : n + 1 - 1 ≡ n = omega arith in
    ap (λ (l : List ℕ). l ++ (g (n + 1 - 1) ∷ [])) (row_same g h n (λ p l. e p (omega arith)))
    ∙ ap (λ (x : ℕ). run (λ (i : ℕ). h (i - 1)) n ++ (x ∷ [])) (ap g k ∙ e n (omega arith) ∙ ap h (sym k))

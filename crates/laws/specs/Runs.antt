-- A run of values, as lent memory is filled: used by the definitions of every call that writes a row.
-- Assumes nothing.
use Rattle.std.specs.Prelude.{List, [], ◌∷◌, ◌++◌, ℕ, zero, suc, ◌+◌}

-- f 1, f 2, .. f n
unfoldable pub run : (ℕ → ℕ) → ℕ → List ℕ
run f zero = []
run f (suc n) = run f n ++ (f (n + 1) ∷ [])

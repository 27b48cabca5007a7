-- Truth values taken apart: what a joined test says of its parts.
-- Assumes nothing.
use mathlib.Core.Path.{◌≡◌, refl, sym, ap}
use mathlib.Core.Bool.{Bool, true, false, ◌&&◌, ◌||◌}
use Prim.Native.Nat.{ℕ}
use native.Mathlib.Omega.{arith}
use lib.Dec.{T}

pub true_false : {A : Type 0} → true ≡ false → A
true_false e = let z : ◌≡◌ {A = ℕ} 0 1 = cc in absurd (omega arith)

pub and_true : (a b : Bool) → (a && b) ≡ true → (a ≡ true) × (b ≡ true)
and_true true b e = (refl, e)
and_true false b e = true_false (sym e)

pub both : (a b : Bool) → a ≡ true → b ≡ true → (a && b) ≡ true
both a b p q = rw (p, q)

pub or_false : (a b : Bool) → (a || b) ≡ false → (a ≡ false) × (b ≡ false)
or_false false b e = (refl, e)
or_false true b e = true_false e

pub or_none : (b : Bool) → (b || false) ≡ b
or_none true = refl
or_none false = refl

pub or_same : {a b c d : Bool} → a ≡ c → b ≡ d → (a || b) ≡ (c || d)
or_same p q = rw (p, q)

-- the same of a test that computed
pub T-and-left : (a b : Bool) → T (a && b) → T a
T-and-left true b t = tt
T-and-left false b t = t

pub T-and-right : (a b : Bool) → T (a && b) → T b
T-and-right true b t = t
T-and-right false b t = absurd t

-- three tests one after the other: the first that fails decides
pub fails_first : (a r : Bool) → false ≡ a → false ≡ (a && r)
fails_first a r e = ap (λ (b : Bool). b && r) e

pub fails_second : (a b c : Bool) → a ≡ true → false ≡ b → false ≡ (a && (b && c))
fails_second a b c ea eb = rw ea (fails_first b c eb)

pub last_decides : (a b c r : Bool) → a ≡ true → b ≡ true → r ≡ c → r ≡ (a && (b && c))
last_decides a b c r ea eb ec = rw (ea, eb) ec

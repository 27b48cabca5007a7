-- What there is to distinguish: a test holds or not, one of two joined tests holds, a number is below another or not, equal to it or not,
-- one of a few, or one of those below another. Cited by the proofs of all chapters. Assumes nothing.
use mathlib.Core.Path.{◌≡◌, refl, sym, subst}
use mathlib.Core.List.{List, [], ◌∷◌}
use mathlib.Core.Bool.{Bool, true, false, ◌||◌}
use mathlib.Core.Logic.{◌⊎◌, inl, inr, ⊎_elim}
use Prim.Native.Nat.{ℕ, zero, suc, ◌<◌, ◌≤◌}
use native.Mathlib.Nat.{eq-or-lt_of_le, le_of_suc-le-suc}
use native.Mathlib.Omega.{arith}
use lib.Dec.{eqb, ltb}
use borrow.Author.Tests.{ltb-true, ltb-false, eqb-true, eqb-false}

pub by_cases : (t : Bool) → (t ≡ true) ⊎ (t ≡ false)
by_cases true = inl refl
by_cases false = inr refl

pub either : (a b : Bool) → (a || b) ≡ true → (a ≡ true) ⊎ (b ≡ true)
either true b e = inl refl
either false b e = inr e

pub below_or_not : (m n : ℕ) → (m < n) ⊎ (n ≤ m)
below_or_not m n = ⊎_elim (λ e. inl (ltb-true m n e)) (λ e. inr (ltb-false m n e)) (by_cases (ltb m n))

pub equal_or_not : (m n : ℕ) → (m ≡ n) ⊎ (m ≡ n → ⊥)
equal_or_not m n = ⊎_elim (λ e. inl (eqb-true m n e)) (λ e. inr (eqb-false m n e)) (by_cases (eqb m n))

-- n is one of those for which a test held already, or of a list: as in `eqb n 2 || eqb n 4 || eqb n 8`
abbrev among : ℕ → Bool → List ℕ → Bool
among n held [] = held
among n held (a ∷ l) = among n (held || eqb n a) l

abbrev pub Each : (ℕ → Type 0) → List ℕ → Type 0
Each P [] = Unit
Each P (a ∷ l) = P a × Each P l

among_held : (P : ℕ → Type 0) (n : ℕ) (held : Bool) (l : List ℕ) → (held ≡ true → P n) → Each P l → among n held l ≡ true → P n
among_held P n held [] h e t = h t
among_held P n held (a ∷ l) h e t =
    among_held P n (held || eqb n a) l (λ o. ⊎_elim h (λ q. subst P (sym (eqb-true n a q)) e.0) (either held (eqb n a) o)) e.1 t

-- what holds of each of a few numbers holds of whatever is one of them
pub one_of : (P : ℕ → Type 0) (n a : ℕ) (l : List ℕ) → Each P (a ∷ l) → among n (eqb n a) l ≡ true → P n
one_of P n a l e = among_held P n (eqb n a) l (λ q. subst P (sym (eqb-true n a q)) e.0) e.1

-- what holds of each number below n
abbrev pub Below : (ℕ → Type 0) → ℕ → Type 0
Below P zero = Unit
Below P (suc n) = Below P n × P n

pub below : (P : ℕ → Type 0) (n : ℕ) → Below P n → (k : ℕ) → k < n → P k
below P zero b k h = absurd (omega arith)
below P (suc n) b k h = ⊎_elim (λ e. subst P (sym e) b.1) (λ l. below P n b.0 k l) (eq-or-lt_of_le (le_of_suc-le-suc h))

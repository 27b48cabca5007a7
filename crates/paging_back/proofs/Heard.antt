-- What a number of ones among n bits is heard as: all of one kind are off or on, and one changed bit of such is torn. Laws over n alone, whatever runs
-- the bits lie in. Assumes nothing.
use mathlib.Core.Path.{◌≡◌, refl, sym, ap, ◌∙◌}
use mathlib.Core.Bool.{Bool, true, false, cond}
use mathlib.Core.Logic.{◌⊎◌, inl, inr, ⊎_elim}
use Prim.Native.Nat.{ℕ, ◌+◌, ◌*◌, ◌≤◌}
use native.Mathlib.Omega.{arith}
use lib.Dec.{eqb}
use borrow.Author.Tests.{eq-eqb, ne_eqb, eqb-true}
use Rattle.paging_bits.specs.Bits.{heard}

-- n bits that are all 0, or all 1
heard_off : (n : ℕ) → heard 0 n ≡ 0
unfolding heard
heard_off n = refl

heard_on : (n : ℕ) → 1 ≤ n → heard n n ≡ 1
unfolding heard
heard_on n h = simp (ne_eqb n 0 (λ e. omega arith), eq-eqb n n refl)

pub heard_all : (b n : ℕ) → 1 ≤ n → (b ≡ 0) ⊎ (b ≡ 1) → heard (b * n) n ≡ b
heard_all b n low w =
    ⊎_elim
    (λ (e : b ≡ 0). let k : b * n ≡ 0 = ap (λ (m : ℕ). m * n) e ∙ omega arith in ap (λ (m : ℕ). heard m n) k ∙ heard_off n ∙ sym e)
    (λ (e : b ≡ 1). let k : b * n ≡ n = ap (λ (m : ℕ). m * n) e ∙ omega arith in ap (λ (m : ℕ). heard m n) k ∙ heard_on n low ∙ sym e)
    w

-- what is not torn has no ones, or all; what has neither is torn
untorn_tests : (a b : Bool) → (◌≡◌ {A = ℕ} (cond a 0 (cond b 1 2)) 2 → ⊥) → (a ≡ true) ⊎ (b ≡ true)
untorn_tests true b h = inl refl
untorn_tests false true h = inr refl
untorn_tests false false h = absurd (h refl)

untorn_cases : (ones n : ℕ) → (heard ones n ≡ 2 → ⊥) → (ones ≡ 0) ⊎ (ones ≡ n)
unfolding heard
untorn_cases ones n h = ⊎_elim (λ e. inl (eqb-true ones 0 e)) (λ e. inr (eqb-true ones n e)) (untorn_tests (eqb ones 0) (eqb ones n) h)

heard_torn : (ones n : ℕ) → (ones ≡ 0 → ⊥) → (ones ≡ n → ⊥) → heard ones n ≡ 2
unfolding heard
heard_torn ones n g h = simp (ne_eqb ones 0 g, ne_eqb ones n h)

-- so only none is heard as off, and only all as on; what is heard as neither is torn
pub heard_none : (ones n : ℕ) → 1 ≤ n → heard ones n ≡ 0 → ones ≡ 0
heard_none ones n low e =
    ⊎_elim (λ (z : ones ≡ 0). z)
    (λ (z : ones ≡ n). absurd (omega (arith, ap (λ (k : ℕ). heard k n) z, heard_on n low)))
    (untorn_cases ones n (λ t. omega arith))

pub heard_full : (ones n : ℕ) → heard ones n ≡ 1 → ones ≡ n
heard_full ones n e =
    ⊎_elim (λ (z : ones ≡ 0). absurd (omega (arith, ap (λ (k : ℕ). heard k n) z, heard_off n)))
    (λ (z : ones ≡ n). z)
    (untorn_cases ones n (λ t. omega arith))

pub heard_else : (ones n : ℕ) → 1 ≤ n → (heard ones n ≡ 0 → ⊥) → (heard ones n ≡ 1 → ⊥)
    → heard ones n ≡ 2
heard_else ones n low a b =
    heard_torn ones n (λ z. a (ap (λ (k : ℕ). heard k n) z ∙ heard_off n))
    (λ z. b (ap (λ (k : ℕ). heard k n) z ∙ heard_on n low))

-- of n bits that are not torn one changes, from o to w: then some are 1 and some 0
pub heard_changed : (n x y o w : ℕ) → 2 ≤ n → o ≤ 1 → w ≤ 1 → (w ≡ o → ⊥) → y + o ≡ x + w → (heard x n ≡ 2 → ⊥) → heard y n ≡ 2
heard_changed n x y o w low a b d e h =
    ⊎_elim
    (λ (z : x ≡ 0). heard_torn y n (λ k. d (omega arith)) (λ k. d (omega arith)))
    (λ (z : x ≡ n). heard_torn y n (λ k. d (omega arith)) (λ k. d (omega arith)))
    (untorn_cases x n h)

-- How often each power of j comes in a row of them, and what the chips of these powers add up to at a level: level·(a - c) and level·(b - d), where the powers 0 to 3
-- come a, b, c and d times. Cited by proofs/Sums.antt. Assumes nothing.
use mathlib.Core.Path.{◌≡◌, refl, sym, ap, ◌∙◌}
use mathlib.Core.Bool.{Bool, true, false, cond}
use mathlib.Core.Logic.{⊎_elim}
use Prim.Native.Nat.{ℕ, zero, suc, ◌+◌, ◌*◌, ◌<◌, ◌≤◌}
use native.Mathlib.Nat.{mul-zero, mul-suc, eq-or-lt_of_le, le_of_suc-le-suc}
use native.Mathlib.Omega.{arith}
use lib.Dec.{eqb}
use lib.IntN.{ℤ, pos, neg_ℤ, ◌+ℤ◌, ◌-ℤ◌, +ℤ_idr}
use borrow.Author.Tests.{eqb-true}
use Rattle.laws.proofs.Cases.{below}
use Rattle.sums.specs.Totals.{total}
use Rattle.signal_card.specs.SignalCard.{pair_of}
use Rattle.clean_copies.proofs.Totals.{more, less}

-- how many of f 1, f 2, .. f n are p
unfoldable pub how_many : (ℕ → ℕ) → ℕ → ℕ → ℕ
how_many f p zero = 0
how_many f p (suc n) = cond (eqb (f (suc n)) p) (suc (how_many f p n)) (how_many f p n)

at_most : (f : ℕ → ℕ) (p n : ℕ) → how_many f p n ≤ n
unfolding how_many
at_most f p zero = omega arith
at_most f p (suc n) = by (eqb (f (suc n)) p) (at_most f p n)
  where
    by : (b : Bool) → how_many f p n ≤ n → cond b (suc (how_many f p n)) (how_many f p n) ≤ suc n
    by true h = omega arith
    by false h = omega arith

-- if they are as many as there are, each is p
pub all_of_them : (f : ℕ → ℕ) (p n : ℕ) → how_many f p n ≡ n → (i : ℕ) → 1 ≤ i → i ≤ n → f i ≡ p
unfolding how_many
all_of_them f p zero e i low high = absurd (omega arith)
all_of_them f p (suc n) e i low high = by (eqb (f (suc n)) p) refl e (λ r l. all_of_them f p n r i low l)
  where
    by : (b : Bool) → eqb (f (suc n)) p ≡ b → cond b (suc (how_many f p n)) (how_many f p n) ≡ suc n → (how_many f p n ≡ n → i ≤ n → f i ≡ p) → f i ≡ p
    by true t e rest =
        ⊎_elim
        (λ (s : i ≡ suc n). ap f s ∙ eqb-true (f (suc n)) p t)
        (λ (l : i < suc n). rest (omega arith) (le_of_suc-le-suc l))
        (eq-or-lt_of_le high)
    by false t e rest = absurd (omega (arith, at_most f p n))

-- powers of j: every chip has one of four
module _ (f : ℕ → ℕ) (powers : (i : ℕ) → f i < 4) where
  pub four_counts : (n : ℕ) → how_many f 0 n + how_many f 1 n + how_many f 2 n + how_many f 3 n ≡ n
  unfolding how_many
  four_counts zero = refl
  four_counts (suc n) =
      let rest = four_counts n in
      let a = how_many f 0 n in
      let b = how_many f 1 n in
      let c = how_many f 2 n in
      let d = how_many f 3 n in
      below (λ q. cond (eqb q 0) (suc a) a + cond (eqb q 1) (suc b) b + cond (eqb q 2) (suc c) c + cond (eqb q 3) (suc d) d ≡ suc n) 4
      ((((tt, omega arith), omega arith), omega arith), omega arith) (f (suc n)) (powers (suc n))

  module _ (level : ℕ) where
    -- so many times the level, less so many times: once more, or once less
    abbrev times : ℕ → ℕ → ℤ
    times x y = pos (level * x) -ℤ pos (level * y)

    up : (x y : ℕ) → times x y +ℤ pos level ≡ times (suc x) y
    up x y = more (level * x) (level * y) level ∙ ap (λ (k : ℕ). pos k -ℤ pos (level * y)) (sym (mul-suc level x))

    down : (x y : ℕ) → times x y +ℤ neg_ℤ (pos level) ≡ times x (suc y)
    down x y = less (level * x) (level * y) level ∙ ap (λ (k : ℕ). pos (level * x) -ℤ pos k) (sym (mul-suc level y))

    -- the real parts, and the imaginary parts
    pub real_total : (n : ℕ) → total (λ (i : ℕ). (pair_of level (f i)).0) n ≡ times (how_many f 0 n) (how_many f 2 n)
    unfolding total how_many pair_of
    real_total zero = sym (ap (λ (k : ℕ). pos k -ℤ pos k) (mul-zero level))
    real_total (suc n) =
        let a = how_many f 0 n in
        let c = how_many f 2 n in
        let stays = +ℤ_idr (times a c) in
        ap (λ (z : ℤ). z +ℤ (pair_of level (f (suc n))).0) (real_total n)
        ∙ below (λ q. times a c +ℤ (pair_of level q).0 ≡ times (cond (eqb q 0) (suc a) a) (cond (eqb q 2) (suc c) c)) 4
        ((((tt, up a c), stays), down a c), stays) (f (suc n)) (powers (suc n))

    pub imaginary_total : (n : ℕ) → total (λ (i : ℕ). (pair_of level (f i)).1) n ≡ times (how_many f 1 n) (how_many f 3 n)
    unfolding total how_many pair_of
    imaginary_total zero = sym (ap (λ (k : ℕ). pos k -ℤ pos k) (mul-zero level))
    imaginary_total (suc n) =
        let b = how_many f 1 n in
        let d = how_many f 3 n in
        let stays = +ℤ_idr (times b d) in
        ap (λ (z : ℤ). z +ℤ (pair_of level (f (suc n))).1) (imaginary_total n)
        ∙ below (λ q. times b d +ℤ (pair_of level q).1 ≡ times (cond (eqb q 1) (suc b) b) (cond (eqb q 3) (suc d) d)) 4
        ((((tt, stays), up b d), stays), down b d) (f (suc n)) (powers (suc n))

-- How many places below n pass a test, and that each of N runs of L places has L of them. Laws over run length and number.
-- Assumes nothing.
use mathlib.Core.Path.{◌≡◌, refl, ap, ◌∙◌, subst}
use mathlib.Core.Bool.{Bool, true, false, cond}
use mathlib.Core.Logic.{⊎_elim}
use Prim.Native.Nat.{ℕ, zero, suc, ◌+◌, ◌*◌, ◌/◌, ◌<◌, ◌≤◌}
use native.Mathlib.Nat.{eq-or-lt_of_le, suc-mul, mul_comm}
use native.Mathlib.Omega.{arith}
use lib.Dec.{eqb}
use borrow.Author.Tests.{eq-eqb, ne_eqb}
use Rattle.paging_bits.proofs.OneRun.{run_owner, owner_below}

-- of the tests f 0 .. f (n - 1), how many hold
unfoldable pub tally : (ℕ → Bool) → ℕ → ℕ
tally f zero = 0
tally f (suc n) = tally f n + cond (f n) 1 0

pub tally_same : (f g : ℕ → Bool) (n : ℕ) → ((i : ℕ) → i < n → f i ≡ g i) → tally f n ≡ tally g n
unfolding tally
tally_same f g zero h = refl
tally_same f g (suc n) h = ap (λ (k : ℕ). k + cond (f n) 1 0) (tally_same f g n (λ i l. h i (omega arith))) ∙ ap (λ (b : Bool). tally g n + cond b 1 0) (h n (omega arith))

pub tally_none : (f : ℕ → Bool) (n : ℕ) → ((i : ℕ) → i < n → f i ≡ false) → tally f n ≡ 0
unfolding tally
tally_none f zero h = refl
tally_none f (suc n) h = simp (h n (omega arith)) (omega (arith, tally_none f n (λ i l. h i (omega arith))))

pub tally_all : (f : ℕ → Bool) (n : ℕ) → ((i : ℕ) → i < n → f i ≡ true) → tally f n ≡ n
unfolding tally
tally_all f zero h = refl
tally_all f (suc n) h = simp (h n (omega arith)) (omega (arith, tally_all f n (λ i l. h i (omega arith))))

-- places below n + m: those below n, and m more
pub tally_split : (f : ℕ → Bool) (n m : ℕ) → tally f (n + m) ≡ tally f n + tally (λ (i : ℕ). f (n + i)) m
unfolding tally
tally_split f n zero =
    let none : n + 0 ≡ n = omega arith in
    let same : tally f (n + 0) ≡ tally f n = ap (tally f) none in
    omega arith
tally_split f n (suc m) =
    let next : n + suc m ≡ suc (n + m) = omega arith in
    let same : tally f (n + suc m) ≡ tally f (n + m) + cond (f (n + m)) 1 0 = ap (tally f) next in
    omega (arith, tally_split f n m)

-- of N runs of L places each, each owns L
pub run_tally : (L : ℕ) → 1 ≤ L → (N q : ℕ) → q < N → tally (λ (p : ℕ). eqb q (p / L)) (N * L) ≡ L
run_tally L low zero q h = absurd (omega arith)
run_tally L low (suc N) q h =
    let test : ℕ → Bool = λ p. eqb q (p / L) in
    let last : (i : ℕ) → i < L → (N * L + i) / L ≡ N = λ i l. subst (λ (k : ℕ). (k + i) / L ≡ N) (mul_comm L N) (run_owner L low N i l) in
    let size : suc N * L ≡ N * L + L = suc-mul N L in
    let cut : tally test (suc N * L) ≡ tally test (N * L) + tally (λ (i : ℕ). test (N * L + i)) L = ap (tally test) size ∙ tally_split test (N * L) L in
    let m : q ≤ N = omega arith in
    ⊎_elim
    (λ (e : q ≡ N).
    let before = tally_none test (N * L) (λ p l. ne_eqb q (p / L) (λ d. omega (arith, owner_below L low N p l))) in
    let own = tally_all (λ (i : ℕ). test (N * L + i)) L (λ i l. eq-eqb q ((N * L + i) / L) (omega (arith, last i l))) in
    omega arith)
    (λ (l : q < N).
    let before = run_tally L low N q l in
    let own = tally_none (λ (i : ℕ). test (N * L + i)) L (λ i k. ne_eqb q ((N * L + i) / L) (λ d. omega (arith, last i k))) in
    omega arith)
    (eq-or-lt_of_le m)

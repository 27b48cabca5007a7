-- Laws on totals: term by term, cut in two, in columns, with the other sign, and how large they are. Cited by the crates correlation, hearing and clean_copies.
-- Assumes nothing.
use mathlib.Core.Path.{◌≡◌, refl, sym, ap, ◌∙◌}
use mathlib.Core.Bool.{Bool, true, false, cond}
use Prim.Native.Nat.{ℕ, zero, suc, ◌+◌, ◌-◌, ◌*◌, ◌≤◌}
use native.Mathlib.Numerals.{add-one}
use native.Mathlib.Omega.{arith}
use lib.Dec.{ltb}
use lib.IntN.{ℤ, pos, negsuc, neg_ℤ, nat_abs, ◌+ℤ◌, +ℤ_idr, +ℤ_assoc, +ℤ_comm, neg_ℤ-+ℤ}
use Rattle.sums.specs.Totals.{total}

-- ---- whole numbers

-- the two in the middle change places
pub four_change : (a b c d : ℤ) → (a +ℤ b) +ℤ (c +ℤ d) ≡ (a +ℤ c) +ℤ (b +ℤ d)
four_change a b c d =
    +ℤ_assoc a b (c +ℤ d)
    ∙ ap (λ (z : ℤ). a +ℤ z) (sym (+ℤ_assoc b c d) ∙ ap (λ (z : ℤ). z +ℤ d) (+ℤ_comm b c) ∙ +ℤ_assoc c b d)
    ∙ sym (+ℤ_assoc a c (b +ℤ d))

-- a sum is no larger than its parts together
pub size_sum : (a b : ℤ) → nat_abs (a +ℤ b) ≤ nat_abs a + nat_abs b
size_sum (pos a) (pos b) = omega arith
size_sum (negsuc a) (negsuc b) = omega arith
size_sum (pos a) (negsuc b) = by (ltb a (suc b))
  where
    by : (q : Bool) → nat_abs (cond q (negsuc (suc b - suc a)) (pos (a - suc b))) ≤ a + suc b
    by true = omega arith
    by false = omega arith
size_sum (negsuc a) (pos b) = by (ltb b (suc a))
  where
    by : (q : Bool) → nat_abs (cond q (negsuc (suc a - suc b)) (pos (b - suc a))) ≤ suc a + b
    by true = omega arith
    by false = omega arith

pub size_minus : (z : ℤ) → nat_abs (neg_ℤ z) ≡ nat_abs z
size_minus (pos zero) = refl
size_minus (pos (suc n)) = refl
size_minus (negsuc n) = refl

-- ---- totals

-- equal terms
pub total_same : (f g : ℕ → ℤ) (n : ℕ) → ((i : ℕ) → 1 ≤ i → i ≤ n → f i ≡ g i) → total f n ≡ total g n
unfolding total
total_same f g zero h = refl
total_same f g (suc n) h =
    ap (λ (z : ℤ). z +ℤ f (suc n)) (total_same f g n (λ i low high. h i low (omega arith)))
    ∙ ap (λ (z : ℤ). total g n +ℤ z) (h (suc n) (omega arith) (omega arith))

-- term by term
pub total_sum : (f g : ℕ → ℤ) (n : ℕ) → total (λ (i : ℕ). f i +ℤ g i) n ≡ total f n +ℤ total g n
unfolding total
total_sum f g zero = refl
total_sum f g (suc n) = ap (λ (z : ℤ). z +ℤ (f (suc n) +ℤ g (suc n))) (total_sum f g n) ∙ four_change (total f n) (total g n) (f (suc n)) (g (suc n))

-- every term with the other sign
pub total_minus : (f : ℕ → ℤ) (n : ℕ) → total (λ (i : ℕ). neg_ℤ (f i)) n ≡ neg_ℤ (total f n)
unfolding total
total_minus f zero = refl
total_minus f (suc n) = ap (λ (z : ℤ). z +ℤ neg_ℤ (f (suc n))) (total_minus f n) ∙ sym (neg_ℤ-+ℤ (total f n) (f (suc n)))

-- cut in two
pub total_cut : (f : ℕ → ℤ) (a n : ℕ) → total f (a + n) ≡ total f a +ℤ total (λ (i : ℕ). f (a + i)) n
unfolding total
total_cut f a zero = ap (total f) none ∙ sym (+ℤ_idr (total f a))
  where
    none : a + 0 ≡ a
    none = omega arith
total_cut f a (suc n) =
    let far : a + suc n ≡ suc (a + n) = omega arith in
    ap (total f) far
    ∙ ap (λ (z : ℤ). z +ℤ f (suc (a + n))) (total_cut f a n)
    ∙ +ℤ_assoc (total f a) (total (λ (i : ℕ). f (a + i)) n) (f (suc (a + n)))
    ∙ ap (λ (k : ℕ). total f a +ℤ (total (λ (i : ℕ). f (a + i)) n +ℤ f k)) (sym far)

-- no term is larger than k
pub total_size : (f : ℕ → ℤ) (k n : ℕ) → ((i : ℕ) → 1 ≤ i → i ≤ n → nat_abs (f i) ≤ k) → nat_abs (total f n) ≤ n * k
unfolding total
total_size f k zero h = omega arith
total_size f k (suc n) h =
    let rest = total_size f k n (λ i low high. h i low (omega arith)) in
    let last = h (suc n) (omega arith) (omega arith) in
    omega (arith, size_sum (total f n) (f (suc n)))

-- ---- columns: w of them side by side, column l (from 0) having terms l + 1, w + l + 1, 2w + l + 1 and so on
unfoldable pub column : ℕ → (ℕ → ℤ) → ℕ → ℕ → ℤ
column w f l zero = pos 0
column w f l (suc rows) = column w f l rows +ℤ f (w * rows + (l + 1))

-- no row yet, and one row more
pub column_none : (w : ℕ) (f : ℕ → ℤ) (l : ℕ) → column w f l 0 ≡ pos 0
unfolding column
column_none w f l = refl

pub column_more : (w : ℕ) (f : ℕ → ℤ) (l rows : ℕ) → column w f l (rows + 1) ≡ column w f l rows +ℤ f (w * rows + (l + 1))
unfolding column
column_more w f l rows = ap (column w f l) (add-one rows)

pub column_size : (w : ℕ) (f : ℕ → ℤ) (k l rows : ℕ) → ((r : ℕ) → r + 1 ≤ rows → nat_abs (f (w * r + (l + 1))) ≤ k) → nat_abs (column w f l rows) ≤ rows * k
unfolding column
column_size w f k l zero h = omega arith
column_size w f k l (suc rows) h =
    let rest = column_size w f k l rows (λ r high. h r (omega arith)) in
    let last = h rows (omega arith) in
    omega (arith, size_sum (column w f l rows) (f (w * rows + (l + 1))))

zeros : (n : ℕ) → total (λ (l : ℕ). pos 0) n ≡ pos 0
unfolding total
zeros zero = refl
zeros (suc n) = ap (λ (z : ℤ). z +ℤ pos 0) (zeros n)

-- all columns together are the total
pub columns : (w : ℕ) (f : ℕ → ℤ) (rows : ℕ) → total (λ (l : ℕ). column w f (l - 1) rows) w ≡ total f (w * rows)
unfolding total
columns w f zero =
    let none : w * 0 ≡ 0 = omega arith in
    total_same _ _ w (λ l low high. column_none w f (l - 1)) ∙ zeros w ∙ sym (ap (total f) none)
columns w f (suc rows) =
    let far : w * suc rows ≡ w * rows + w = omega arith in
    total_same _ _ w (λ l low high. ap (column w f (l - 1)) (sym (add-one rows)) ∙ column_more w f (l - 1) rows)
    ∙ total_sum (λ (l : ℕ). column w f (l - 1) rows) (λ (l : ℕ). f (w * rows + (l - 1 + 1))) w
    ∙ ap (λ (z : ℤ). z +ℤ total (λ (l : ℕ). f (w * rows + (l - 1 + 1))) w) (columns w f rows)
    ∙ ap (λ (z : ℤ). total f (w * rows) +ℤ z) (total_same _ _ w (λ l low high. ap f (back l low)))
    ∙ sym (total_cut f (w * rows) w)
    ∙ ap (total f) (sym far)
  where
    back : (l : ℕ) → 1 ≤ l → w * rows + (l - 1 + 1) ≡ w * rows + l
    back l low = omega arith

-- What the turned samples and the signs add up to, turned back by the user's shift, are document 02's two sums. Cited by the crate hearing.
-- Assumes nothing.
use mathlib.Core.Path.{◌≡◌, refl, sym, ap, ◌∙◌}
use mathlib.Core.Bool.{Bool, true, false, cond}
use mathlib.Core.List.{List, []}
use Prim.Native.Nat.{ℕ, zero, suc, ◌+◌, ◌-◌, ◌%◌, ◌≤◌, ◌<◌}
use native.Mathlib.Nat.{mod-lt}
use native.Mathlib.Omega.{arith}
use lib.Dec.{eqb, lit<}
use lib.ListN.{get_or}
use lib.IntN.{ℤ, pos, negsuc, neg_ℤ, one, ◌+ℤ◌, ◌-ℤ◌, ◌*ℤ◌, *ℤ-one, *ℤ-zero, *ℤ-negsuc, +ℤ_idl, +ℤ_idr}
use lib.Ieee.{Float, nan}
use Rattle.sums.specs.Totals.{total}
use Rattle.sums.proofs.Totals.{total_same, total_minus}
use Rattle.code_text.specs.Rows.{bit_at}
use Rattle.codes.specs.Codes.{code_of, shift_of}
use Rattle.codes.proofs.Numbers.{shift_in_period}
use Rattle.elements.specs.Elements.{rows_of}
use Rattle.midambles.specs.TrainingSequences.{chip_of}
use Rattle.signal_card.specs.SignalCard.{pair_of}
use Rattle.samples.specs.Samples.{sample_of}
use Rattle.correlation.specs.Correlation.{sample_at, times_conjugate, product_at, real_sum, imaginary_sum}
use Rattle.correlation.specs.Inside.{back, turned_back, sign_at, term, dot_of, Turned, reach, HoldsSigns}
use Rattle.correlation.proofs.Turning.{by_remainder, turned_on}
use Rattle.correlation.proofs.RowSigns.{element_is, sign_read}

-- ---- times the conjugate of a power of j: turned back as often
times_one : (x : ℤ) → x *ℤ pos 1 ≡ x
unfolding one
times_one x = *ℤ-one x

minus_one : (x : ℤ) → x *ℤ negsuc 0 ≡ neg_ℤ x
minus_one x = *ℤ-negsuc x 0 ∙ ap neg_ℤ (times_one x)

both : {a b c d : ℤ} → a ≡ c → b ≡ d → ◌≡◌ {A = ℤ × ℤ} (a, b) (c, d)
both p q = λ j. (p j, q j)

pub conjugate : (r : ℕ) (v : ℤ × ℤ) → r < 4 → times_conjugate v (pair_of 1 r) ≡ turned_back r v
unfolding times_conjugate pair_of turned_back
conjugate zero v h =
    let x = v.0 in
    let y = v.1 in
    both (ap (λ (z : ℤ). z +ℤ y *ℤ pos 0) (times_one x) ∙ ap (λ (z : ℤ). x +ℤ z) (*ℤ-zero y) ∙ +ℤ_idr x) (ap (λ (z : ℤ). z -ℤ x *ℤ pos 0) (times_one y) ∙ ap (λ (z : ℤ). y -ℤ z) (*ℤ-zero x) ∙ +ℤ_idr y)
conjugate (suc zero) v h =
    let x = v.0 in
    let y = v.1 in
    both (ap (λ (z : ℤ). z +ℤ y *ℤ pos 1) (*ℤ-zero x) ∙ ap (λ (z : ℤ). pos 0 +ℤ z) (times_one y) ∙ +ℤ_idl y) (ap (λ (z : ℤ). z -ℤ x *ℤ pos 1) (*ℤ-zero y) ∙ ap (λ (z : ℤ). pos 0 -ℤ z) (times_one x) ∙ +ℤ_idl (neg_ℤ x))
conjugate (suc (suc zero)) v h =
    let x = v.0 in
    let y = v.1 in
    both
    (ap (λ (z : ℤ). z +ℤ y *ℤ pos 0) (minus_one x) ∙ ap (λ (z : ℤ). neg_ℤ x +ℤ z) (*ℤ-zero y) ∙ +ℤ_idr (neg_ℤ x))
    (ap (λ (z : ℤ). z -ℤ x *ℤ pos 0) (minus_one y) ∙ ap (λ (z : ℤ). neg_ℤ y -ℤ z) (*ℤ-zero x) ∙ +ℤ_idr (neg_ℤ y))
conjugate (suc (suc (suc zero))) v h =
    let x = v.0 in
    let y = v.1 in
    both
    (ap (λ (z : ℤ). z +ℤ y *ℤ negsuc 0) (*ℤ-zero x) ∙ ap (λ (z : ℤ). pos 0 +ℤ z) (minus_one y) ∙ +ℤ_idl (neg_ℤ y))
    (ap (λ (z : ℤ). z -ℤ x *ℤ negsuc 0) (*ℤ-zero y) ∙ ap (λ (z : ℤ). pos 0 -ℤ z) (minus_one x) ∙ +ℤ_idl (neg_ℤ (neg_ℤ x)))
conjugate (suc (suc (suc (suc r)))) v h = absurd (omega arith)

-- ---- turning back keeps signs and totals
abbrev sign_of : Bool → ℤ
sign_of b = cond b (pos 1) (negsuc 0)

abbrev times : ℤ × ℤ → ℤ → ℤ × ℤ
times v s = (v.0 *ℤ s, v.1 *ℤ s)

turned_times : (s : ℕ) (v : ℤ × ℤ) (b : Bool) → turned_back s (times v (sign_of b)) ≡ times (turned_back s v) (sign_of b)
unfolding turned_back
turned_times zero v b = refl
turned_times (suc s) v b = ap back (turned_times s v b) ∙ once (turned_back s v) b
  where
    once : (w : ℤ × ℤ) (b : Bool) → back (times w (sign_of b)) ≡ times (back w) (sign_of b)
    once w true = both refl (ap neg_ℤ (times_one w.0) ∙ sym (times_one (neg_ℤ w.0)))
    once w false = both refl (ap neg_ℤ (minus_one w.0) ∙ sym (minus_one (neg_ℤ w.0)))

half_turn : (w : ℤ × ℤ) → turned_back 2 w ≡ times w (negsuc 0)
unfolding turned_back
half_turn w = both (sym (minus_one w.0)) (sym (minus_one w.1))

-- times the conjugate of j to the power k with a sign
signed_chip : (k : ℕ) (v : ℤ × ℤ) (b : Bool) → times_conjugate v (pair_of 1 (cond b (k % 4) ((k + 2) % 4))) ≡ times (turned_back k v) (sign_of b)
signed_chip k v true =
    conjugate (k % 4) v (mod-lt k (lit< tt)) ∙ sym (by_remainder k v) ∙ both (sym (times_one (turned_back k v).0)) (sym (times_one (turned_back k v).1))
signed_chip k v false =
    conjugate ((k + 2) % 4) v (mod-lt (k + 2) (lit< tt))
    ∙ sym (by_remainder (k + 2) v)
    ∙ turned_on k 2 v
    ∙ half_turn (turned_back k v)

turned_total : (s : ℕ) (f g : ℕ → ℤ) (n : ℕ)
    → (total (λ (i : ℕ). (turned_back s (f i, g i)).0) n ≡ (turned_back s (total f n, total g n)).0) × (total (λ (i : ℕ). (turned_back s (f i, g i)).1) n ≡ (turned_back s (total f n, total g n)).1)
unfolding turned_back
turned_total zero f g n = (refl, refl)
turned_total (suc s) f g n = let t = turned_total s f g n in (t.1, total_minus (λ (i : ℕ). (turned_back s (f i, g i)).0) n ∙ ap neg_ℤ t.0)

-- ---- a user's sums
module _ (cell burst user : ℕ) (known : 1 ≤ user) (row re im b : List Float) (turned : Turned row (code_of burst).length re im) (signs : HoldsSigns cell burst (reach burst) b) where
  abbrev L : ℕ
  L = (code_of burst).length

  abbrev by : ℕ
  by = shift_of (code_of burst) user

  -- the product at chip i, from what the rows hold
  product_is : (i : ℕ) → 1 ≤ i → i ≤ L → product_at cell burst row user i ≡ turned_back by (term re b by i, term im b by i)
  unfolding product_at chip_of sign_at
  product_is i low high =
      let m = i - 1 in
      let v = sample_at row i in
      let k = i + by in
      let P = (code_of burst).period in
      let bit : Bool = eqb (bit_at (get_or (rows_of burst) cell []) ((k - 1) % P)) 1 in
      let back_again : m + 1 ≡ i = omega arith in
      let further : by + m + 1 ≡ k = omega arith in
      let near : by + m < reach burst = omega (arith, shift_in_period burst user known) in
      let sign : sample_of (get_or b (by + m) nan) ≡ sign_of bit = sign_read cell burst (reach burst) b (by + m) signs near ∙ ap (sign_at cell burst) further in
      let p : sample_of (get_or re m nan) ≡ (turned_back i v).0 = (turned.real m (omega arith)).1 ∙ ap (λ (n : ℕ). (turned_back n (sample_at row n)).0) back_again in
      let q : sample_of (get_or im m nan) ≡ (turned_back i v).1 = (turned.imaginary m (omega arith)).1 ∙ ap (λ (n : ℕ). (turned_back n (sample_at row n)).1) back_again in
      ap (λ (c : ℕ). times_conjugate v (pair_of 1 c)) (element_is cell burst k (omega arith))
      ∙ signed_chip k v bit
      ∙ ap (λ (w : ℤ × ℤ). times w (sign_of bit)) (turned_on i by v)
      ∙ sym (turned_times by (turned_back i v) bit)
      ∙ ap (turned_back by) (both (ap (λ (z : ℤ). z *ℤ sign_of bit) (sym p) ∙ ap (λ (z : ℤ). sample_of (get_or re m nan) *ℤ z) (sym sign)) (ap (λ (z : ℤ). z *ℤ sign_of bit) (sym q) ∙ ap (λ (z : ℤ). sample_of (get_or im m nan) *ℤ z) (sym sign)))

  pub sums_meant : turned_back by (dot_of re b by L, dot_of im b by L) ≡ (real_sum cell burst row user, imaginary_sum cell burst row user)
  unfolding real_sum imaginary_sum
  sums_meant =
      let t = turned_total by (term re b by) (term im b by) L in
      both
      (sym t.0 ∙ total_same _ _ L (λ i low high. ap (λ (z : ℤ × ℤ). z.0) (sym (product_is i low high))))
      (sym t.1 ∙ total_same _ _ L (λ i low high. ap (λ (z : ℤ × ℤ). z.1) (sym (product_is i low high))))

-- Loops over a word's digits: a number that grows, and a test of each byte. Cited by the proofs of `numbers`.
-- Assumes nothing.
use mathlib.Core.Path.{◌≡◌, refl, sym, ap, subst, ◌∙◌}
use mathlib.Core.Bool.{Bool, true, false, not, ◌&&◌}
use mathlib.Core.List.{List, [], ◌∷◌}
use Prim.Native.Nat.{ℕ, ◌+◌, ◌-◌, ◌*◌, ◌<◌, ◌≤◌}
use native.Mathlib.Nat.{le_refl}
use native.Mathlib.Numerals.{add-one}
use native.Mathlib.Omega.{arith}
use borrow.Author.Tests.{ne_eqb, le-leb, lt-leb, leb-true, leb-false}
use lib.Dec.{eqb, leb}
use lib.ListN.{length, drop, get_or, drop_of_length-le}
use lib.Seq.{drop-cons}
use Rattle.std.proofs.Common.{None, Some}
use Rattle.laws.specs.Lists.{every}
use Rattle.laws.proofs.Bools.{and_true as both}
use Rattle.lesson_words.specs.Numbers.{is_digit, value_from, is_none, is_numeral, value_if, numeral_of}

-- more digits make no number smaller
value_least : (l : List ℕ) (v : ℕ) → v ≤ value_from v l
unfolding value_from
value_least [] v = le_refl v
value_least (c ∷ l) v = let h : v * 10 + (c - 48) ≤ value_from (v * 10 + (c - 48)) l = value_least l (v * 10 + (c - 48)) in omega (arith, h)

module _ (l : List ℕ) (i : ℕ) where
  -- one digit more is read
  pub value_on : (v v' w : ℕ) → i < length l → v' ≡ v * 10 + (get_or l i 0 - 48) → value_from v (drop i l) ≡ w → value_from v' (drop (i + 1) l) ≡ w
  unfolding value_from
  value_on v v' w h g inv =
      ap (λ (k : ℕ). value_from k (drop (i + 1) l)) g ∙ ap (λ (k : ℕ). value_from (v * 10 + (get_or l i 0 - 48)) (drop k l)) (add-one i)
      ∙ sym (ap (value_from v) (drop-cons l i 0 h)) ∙ inv

  -- none is left
  pub value_end : (v w : ℕ) → length l ≤ i → value_from v (drop i l) ≡ w → v ≡ w
  unfolding value_from
  value_end v w h inv = sym (ap (value_from v) (drop_of_length-le l h)) ∙ inv

  module _ (p : ℕ → Bool) (w : Bool) where
    every_cons : i < length l → every p (drop i l) ≡ (p (get_or l i 0) && every p (drop (i + 1) l))
    unfolding every
    every_cons h = ap (every p) (drop-cons l i 0 h) ∙ ap (λ (k : ℕ). p (get_or l i 0) && every p (drop k l)) (sym (add-one i))

    -- the byte holds
    pub every_on : i < length l → p (get_or l i 0) ≡ true → every p (drop i l) ≡ w → every p (drop (i + 1) l) ≡ w
    every_on h e inv = ap (λ (t : Bool). t && every p (drop (i + 1) l)) (sym e) ∙ sym (every_cons h) ∙ inv

    -- it does not
    pub every_off : i < length l → p (get_or l i 0) ≡ false → every p (drop i l) ≡ w → false ≡ w
    every_off h e inv = ap (λ (t : Bool). t && every p (drop (i + 1) l)) (sym e) ∙ sym (every_cons h) ∙ inv

    pub every_end : length l ≤ i → every p (drop i l) ≡ w → true ≡ w
    unfolding every
    every_end h inv = sym (ap (every p) (drop_of_length-le l h)) ∙ inv

and_false : (b : Bool) → (b && false) ≡ false
and_false true = refl
and_false false = refl

no_numeral : (l : List ℕ) → is_numeral l ≡ false → None ≡ numeral_of l
unfolding numeral_of value_if
no_numeral l e = sym (ap (λ (b : Bool). value_if b (value_from 0 l)) e)

-- nothing, something that is no digit, and too large a number
pub not_none : (l : List ℕ) → length l ≡ 0 → None ≡ numeral_of l
unfolding is_numeral is_none
not_none l h = no_numeral l (ap (λ (n : ℕ). not (eqb n 0) && (every is_digit l && leb (value_from 0 l) 4294967295)) h)

pub not_digits : (l : List ℕ) → false ≡ every is_digit l → None ≡ numeral_of l
unfolding is_numeral
not_digits l h =
    no_numeral l
    (ap (λ (b : Bool). not (is_none l) && (b && leb (value_from 0 l) 4294967295)) (sym h) ∙ and_false (not (is_none l)))

-- what `grown` answers: the next number, or nothing, where that is too large
pub grown_by : (n v : ℕ) → Some v ≡ value_if (leb n 4294967295) n → v ≡ n
unfolding value_if
grown_by n v e = elim (leb n 4294967295) as (λ b. Some v ≡ value_if b n → v ≡ n) [ true ↦ λ q. cc | false ↦ λ q. absurd (cc) ] e

pub grown_small : (n v : ℕ) → Some v ≡ value_if (leb n 4294967295) n → v ≤ 4294967295
unfolding value_if
grown_small n v e =
    elim (leb n 4294967295) as (λ b. leb n 4294967295 ≡ b → Some v ≡ value_if b n → v ≤ 4294967295)
    [ true ↦ λ h q. let w : v ≡ n = cc in let m : n ≤ 4294967295 = leb-true n 4294967295 h in omega (arith, w, m) | false ↦ λ h q. absurd (cc) ] refl e

too_large : (n : ℕ) → None ≡ value_if (leb n 4294967295) n → leb n 4294967295 ≡ false
unfolding value_if
too_large n e = elim (leb n 4294967295) as (λ b. None ≡ value_if b n → b ≡ false) [ true ↦ λ q. absurd (cc) | false ↦ λ q. refl ] e

pub not_small : (l : List ℕ) (v i : ℕ) → i < length l → None ≡ value_if (leb (v * 10 + (get_or l i 0 - 48)) 4294967295) (v * 10 + (get_or l i 0 - 48))
    → value_from v (drop i l) ≡ value_from 0 l → None ≡ numeral_of l
unfolding is_numeral
not_small l v i h e inv =
    let n : ℕ = v * 10 + (get_or l i 0 - 48) in
    let big : 4294967295 < n = leb-false n 4294967295 (too_large n e) in
    let on : value_from n (drop (i + 1) l) ≡ value_from 0 l = value_on l i v n (value_from 0 l) h refl inv in
    let least : n ≤ value_from n (drop (i + 1) l) = value_least (drop (i + 1) l) n in
    no_numeral l
    (ap (λ (b : Bool). not (is_none l) && (every is_digit l && b)) (lt-leb _ _ (omega (arith, big, on, least)))
    ∙ ap (λ (b : Bool). not (is_none l) && b) (and_false (every is_digit l)) ∙ and_false (not (is_none l)))

-- a number
pub is_number : (l : List ℕ) (v : ℕ) → (length l ≡ 0 → ⊥) → true ≡ every is_digit l → v ≤ 4294967295 → v ≡ value_from 0 l → Some v ≡ numeral_of l
unfolding numeral_of value_if is_numeral is_none
is_number l v some digits small same =
    let fits : value_from 0 l ≤ 4294967295 = subst (λ (x : ℕ). x ≤ 4294967295) same small in
    let good : is_numeral l ≡ true =
    ap (λ (b : Bool). not b && (every is_digit l && leb (value_from 0 l) 4294967295)) (ne_eqb _ _ some)
    ∙ ap (λ (b : Bool). b && leb (value_from 0 l) 4294967295) (sym digits) ∙ le-leb _ _ fits in
    ap Some same ∙ sym (ap (λ (b : Bool). value_if b (value_from 0 l)) good)

pub digit_low : (b : ℕ) → is_digit b ≡ true → 48 ≤ b
unfolding is_digit
digit_low b e = leb-true 48 b (both (leb 48 b) (leb b 57) e).0

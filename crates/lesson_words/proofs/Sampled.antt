-- Words as samples, and rows of them. Cited by the proofs of `samples`.
-- Assumes nothing.
use mathlib.Core.Logic.{⊎_elim}
use mathlib.Core.Path.{◌≡◌, refl, sym, ap, subst, ◌∙◌}
use mathlib.Core.Bool.{Bool, true, false, not, ◌&&◌, ◌||◌, cond, and-true}
use mathlib.Core.List.{List, [], ◌∷◌, ◌++◌, append_assoc, append-nil}
use Prim.Native.Nat.{ℕ, zero, suc, ◌+◌, ◌-◌, ◌*◌, ◌<◌, ◌≤◌}
use native.Mathlib.Nat.{le_refl}
use native.Mathlib.Numerals.{add-one}
use native.Mathlib.Omega.{arith}
use borrow.Author.Tests.{eqb-true, eqb-false, eq-eqb, ne_eqb, le-leb, lt-leb, leb-true}
use lib.Dec.{eqb, leb}
use lib.Pointwise.{pointwise}
use lib.Ieee.{Float}
use lib.ListN.{length, take, drop, set, length-drop}
use lib.Seq.{length-take-le, take_all, take-suc-set}
use Rattle.std.proofs.Common.{Option, None, Some, is_some, unwrap_or}
use Rattle.laws.specs.Lists.{every}
use Rattle.laws.proofs.Bools.{true_false, and_true}
use Rattle.laws.proofs.Cases.{by_cases}
use Rattle.lesson_words.specs.declared.samples.Sample.{Sample}
use Rattle.lesson_words.specs.Words.{word_in, rest_of}
use Rattle.lesson_words.specs.Numbers.{is_digit, value_from, is_none, is_numeral, value_if, numeral_of}
use Rattle.lesson_words.specs.Samples.{is_size, size_of, has_minus, unsigned, signed_word, sample_word, float_of, are_samples, samples_of}

-- the largest number that n digits behind k give
most : ℕ → ℕ → ℕ
most zero k = k
most (suc n) k = most n (k * 10 + 9)

most_above : (n k : ℕ) → k ≤ most n k
unfolding most
most_above zero k = le_refl k
most_above (suc n) k = let h : k * 10 + 9 ≤ most n (k * 10 + 9) = most_above n (k * 10 + 9) in omega (arith, h)

digit_high : (b : ℕ) → is_digit b ≡ true → b ≤ 57
unfolding is_digit
digit_high b e = leb-true b 57 (and_true (leb 48 b) (leb b 57) e).1

value_most : (l : List ℕ) (n v k : ℕ) → every is_digit l ≡ true → length l ≤ n → v ≤ k → value_from v l ≤ most n k
unfolding value_from every most
value_most [] n v k d h b = let m : k ≤ most n k = most_above n k in omega (arith, m, b)
value_most (c ∷ l) zero v k d h b = absurd (omega (arith, h))
value_most (c ∷ l) (suc n) v k d h b =
    let e = and_true (is_digit c) (every is_digit l) d in
    let c57 : c ≤ 57 = digit_high c e.0 in
    let next : v * 10 + (c - 48) ≤ k * 10 + 9 = omega (arith, c57, b) in
    value_most l n (v * 10 + (c - 48)) (k * 10 + 9) e.1 (omega (arith, h)) next

-- six digits are at most 999999
six : (l : List ℕ) → every is_digit l ≡ true → length l ≤ 6 → value_from 0 l ≤ 999999
unfolding most
six l d h = value_most l 6 0 0 d h (omega arith)

and_false : (b : Bool) → (b && false) ≡ false
and_false true = refl
and_false false = refl

-- more digits than six
pub too_many : (l : List ℕ) → 6 < length l → None ≡ size_of l
unfolding size_of value_if is_size
too_many l h =
    sym
    (ap (λ (b : Bool). value_if b (value_from 0 l))
    (ap (λ (b : Bool). not (is_none l) && (every is_digit l && b)) (lt-leb _ _ h)
    ∙ ap (λ (b : Bool). not (is_none l) && b) (and_false (every is_digit l)) ∙ and_false (not (is_none l))))

-- a number of six digits or fewer is never too large
numeral_size : (l : List ℕ) → length l ≤ 6 → is_numeral l ≡ is_size l
unfolding is_numeral is_size
numeral_size l h = ⊎_elim all some (by_cases (every is_digit l))
  where
    all : every is_digit l ≡ true → (not (is_none l) && (every is_digit l && leb (value_from 0 l) 4294967295)) ≡ (not (is_none l) && (every is_digit l && leb (length l) 6))
    all e =
        let v : value_from 0 l ≤ 999999 = six l e h in
        let small : value_from 0 l ≤ 4294967295 = omega (arith, v) in
        ap (λ (b : Bool). not (is_none l) && (every is_digit l && b)) (le-leb _ _ small ∙ sym (le-leb _ _ h))

    some : every is_digit l ≡ false → (not (is_none l) && (every is_digit l && leb (value_from 0 l) 4294967295)) ≡ (not (is_none l) && (every is_digit l && leb (length l) 6))
    some e =
        ap (λ (b : Bool). not (is_none l) && (b && leb (value_from 0 l) 4294967295)) e
        ∙ sym (ap (λ (b : Bool). not (is_none l) && (b && leb (length l) 6)) e)

-- so is the size of a word that has one
size_small : (l : List ℕ) (v : ℕ) → Some v ≡ size_of l → v ≤ 999999
unfolding size_of value_if is_size
size_small l v q = ⊎_elim fit unfit (by_cases (is_size l))
  where
    fit : is_size l ≡ true → v ≤ 999999
    fit e =
        let d = and_true (every is_digit l) (leb (length l) 6) (and_true (not (is_none l)) (every is_digit l && leb (length l) 6) e).1 in
        let n : value_from 0 l ≤ 999999 = six l d.0 (leb-true (length l) 6 d.1) in
        let s : Some v ≡ Some (value_from 0 l) = q ∙ ap (λ (b : Bool). value_if b (value_from 0 l)) e in
        let w : v ≡ value_from 0 l = cc in
        omega (arith, w, n)

    unfit : is_size l ≡ false → v ≤ 999999
    unfit e = let s : Some v ≡ None = q ∙ ap (λ (b : Bool). value_if b (value_from 0 l)) e in absurd (cc)

pub is_size_lem : (l : List ℕ) (m : Option ℕ) → length l ≤ 6 → m ≡ numeral_of l → m ≡ size_of l
unfolding numeral_of size_of
is_size_lem l m h e = e ∙ ap (λ (b : Bool). value_if b (value_from 0 l)) (numeral_size l h)

eqb_sym : (a b : ℕ) → eqb a b ≡ eqb b a
eqb_sym a b = ⊎_elim (λ e. e ∙ sym (eq-eqb b a (sym (eqb-true a b e)))) (λ e. e ∙ sym (ne_eqb b a (λ q. eqb-false a b e (sym q)))) (by_cases (eqb a b))

-- the minus sign
pub minus_first : (w m : List ℕ) → m ≡ 45 ∷ [] → pointwise eqb m (take (length m) w) ≡ has_minus w
unfolding has_minus
minus_first w m e = ap (λ (n : List ℕ). pointwise eqb n (take (length n) w)) e ∙ one w
  where
    one : (w : List ℕ) → pointwise eqb (45 ∷ []) (take 1 w) ≡ has_minus w
    one [] = refl
    one (b ∷ l) = and-true (eqb 45 b) ∙ eqb_sym 45 b

pub minus_some : (w : List ℕ) → has_minus w ≡ true → 1 ≤ length w
unfolding has_minus
minus_some [] e = true_false (sym e)
minus_some (b ∷ l) e = omega arith

-- a word is what stands behind its minus sign, if it has one
module _ (w m : List ℕ) where
  pub with_minus : has_minus w ≡ true → m ≡ take (length w - 1) (drop 1 w) → m ≡ unsigned w
  unfolding unsigned
  with_minus e q =
      let d : length (drop 1 w) ≡ length w - 1 = length-drop 1 w in
      q ∙ take_all (length w - 1) (drop 1 w) (omega (arith, d)) ∙ sym (ap (λ (t : Bool). cond t (drop 1 w) w) e)

  pub without_minus : has_minus w ≡ false → m ≡ w → m ≡ unsigned w
  unfolding unsigned
  without_minus e q = q ∙ sym (ap (λ (t : Bool). cond t (drop 1 w) w) e)

-- and its size is that of what stands there
module _ (w : List ℕ) (o : Option ℕ) (n : o ≡ size_of (unsigned w)) where
  pub no_sample : o ≡ None → None ≡ sample_word w
  unfolding sample_word
  no_sample e = sym (ap (λ (p : Option ℕ). cond (is_some p) (Some (signed_word w)) None) (sym n ∙ e))

  pub a_sample : (v : ℕ) (t : Bool) → t ≡ has_minus w → o ≡ Some v → Some (record { size = v; minus = t }) ≡ sample_word w
  unfolding sample_word signed_word
  a_sample v t e q =
      let is : size_of (unsigned w) ≡ Some v = sym n ∙ q in
      let s : Sample = record { size = unwrap_or (size_of (unsigned w)) 0; minus = has_minus w } in
      let same : record { size = v; minus = t } ≡ s = ap (λ (b : Bool). record { size = v; minus = b }) e ∙ ap (λ (p : Option ℕ). record { size = unwrap_or p 0; minus = has_minus w }) (sym is) in
      ap Some same ∙ sym (ap (λ (p : Option ℕ). cond (is_some p) (Some s) None) is)

-- what a sample is, and that it is not large
module _ (w : List ℕ) (s : Sample) (e : Some s ≡ sample_word w) where
  pub is_signed : s ≡ signed_word w
  unfolding sample_word
  is_signed = elim (is_some (size_of (unsigned w))) as (λ b. Some s ≡ cond b (Some (signed_word w)) None → s ≡ signed_word w) [ true ↦ λ q. cc | false ↦ λ q. absurd (cc) ] e

  pub sample_small : s.size ≤ 999999
  unfolding signed_word
  sample_small = subst (λ (x : Sample). x.size ≤ 999999) (sym is_signed) (small (size_of (unsigned w)) refl)
    where
      small : (o : Option ℕ) → o ≡ size_of (unsigned w) → unwrap_or (size_of (unsigned w)) 0 ≤ 999999
      small None q = subst (λ (p : Option ℕ). unwrap_or p 0 ≤ 999999) q (omega arith)
      small (Some v) q = subst (λ (p : Option ℕ). unwrap_or p 0 ≤ 999999) q (size_small (unsigned w) v q)

-- whether a word stands between two places
pub none_at : (text l : List ℕ) (a b : ℕ) → a ≤ b → b ≤ length text → take (b - a) (drop a text) ≡ word_in l → is_none (word_in l) ≡ eqb (b - a) 0
unfolding is_none
none_at text l a b h r word =
    let d : length (drop a text) ≡ length text - a = length-drop a text in
    let n : length (take (b - a) (drop a text)) ≡ b - a = length-take-le (b - a) (drop a text) (omega (arith, d)) in
    ap (λ (k : ℕ). eqb k 0) (sym (ap length word) ∙ n)

pub some_at : (text l : List ℕ) (a b : ℕ) → a ≤ b → b ≤ length text → (a ≡ b → ⊥) → take (b - a) (drop a text) ≡ word_in l → is_none (word_in l) ≡ false
some_at text l a b h r differ word =
    none_at text l a b h r word ∙ ne_eqb (b - a) 0 (λ z. differ (omega (arith, z, h)))

-- nothing is read yet
module _ (n : ℕ) (l : List ℕ) where
  whole : n - 0 ≡ n
  whole = omega arith

  pub are_start : are_samples (n - 0) l ≡ are_samples n l
  are_start = ap (λ (k : ℕ). are_samples k l) whole

  pub row_start : (row : List Float) → take 0 row ++ samples_of (n - 0) l ≡ samples_of n l
  row_start row = ap (λ (k : ℕ). samples_of k l) whole

-- the loop of `read`: i of n places are filled, and the samples of l are still to be read
module _ (n i : ℕ) (l : List ℕ) where
  -- a word stands there
  module _ (h : i < n) where
    one_left : n - i ≡ suc (n - (i + 1))
    one_left = omega (arith, h)

    are_split : (t f : Bool) → is_none (word_in l) ≡ t → is_some (sample_word (word_in l)) ≡ f → are_samples (n - i) l ≡ (t || (f && are_samples (n - (i + 1)) (rest_of l)))
    unfolding are_samples
    are_split t f e q =
        ap (λ (k : ℕ). are_samples k l) one_left
        ∙ ap (λ (b : Bool). b || (is_some (sample_word (word_in l)) && are_samples (n - (i + 1)) (rest_of l))) e
        ∙ ap (λ (b : Bool). t || (b && are_samples (n - (i + 1)) (rest_of l))) q

    rows_split : (t : Bool) → is_none (word_in l) ≡ t → samples_of (n - i) l ≡ cond t [] (float_of (signed_word (word_in l)) ∷ samples_of (n - (i + 1)) (rest_of l))
    unfolding samples_of
    rows_split t e =
        ap (λ (k : ℕ). samples_of k l) one_left
        ∙ ap (λ (b : Bool). cond b [] (float_of (signed_word (word_in l)) ∷ samples_of (n - (i + 1)) (rest_of l))) e

    -- no word
    pub are_none : (w : Bool) → is_none (word_in l) ≡ true → are_samples (n - i) l ≡ w → w ≡ true
    are_none w e inv = sym inv ∙ are_split true (is_some (sample_word (word_in l))) e refl

    -- no sample
    pub are_off : (w : Bool) → is_none (word_in l) ≡ false → None ≡ sample_word (word_in l) → are_samples (n - i) l ≡ w → w ≡ false
    are_off w e q inv = sym inv ∙ are_split false false e (ap is_some (sym q))

    -- a sample
    pub are_on : (w : Bool) (rest : List ℕ) (s : Sample) → is_none (word_in l) ≡ false → Some s ≡ sample_word (word_in l) → rest ≡ rest_of l → are_samples (n - i) l ≡ w
        → are_samples (n - (i + 1)) rest ≡ w
    are_on w rest s e q r inv = ap (λ (m : List ℕ). are_samples (n - (i + 1)) m) r ∙ sym (are_split false true e (ap is_some (sym q))) ∙ inv

    module _ (row w : List Float) (inv : take i row ++ samples_of (n - i) l ≡ w) where
      pub row_none : is_none (word_in l) ≡ true → take i row ≡ w
      row_none e = sym (append-nil (take i row)) ∙ sym (ap (λ (m : List Float). take i row ++ m) (rows_split true e)) ∙ inv

      pub row_on : (x : Float) (rest : List ℕ) → i < length row → is_none (word_in l) ≡ false → x ≡ float_of (signed_word (word_in l)) → rest ≡ rest_of l
          → take (i + 1) (set row i x) ++ samples_of (n - (i + 1)) rest ≡ w
      row_on x rest k e q r =
          let s : List Float = samples_of (n - (i + 1)) (rest_of l) in
          ap (λ (j : ℕ). take j (set row i x) ++ samples_of (n - (i + 1)) rest) (add-one i)
          ∙ ap (λ (m : List ℕ). take (suc i) (set row i x) ++ samples_of (n - (i + 1)) m) r
          ∙ ap (λ (m : List Float). m ++ s) (take-suc-set row i x k)
          ∙ append_assoc (take i row) (x ∷ []) s
          ∙ ap (λ (y : Float). take i row ++ (y ∷ s)) q
          ∙ sym (ap (λ (m : List Float). take i row ++ m) (rows_split false e)) ∙ inv

  -- no place is left
  module _ (h : n ≤ i) where
    none_left : n - i ≡ 0
    none_left = omega (arith, h)

    pub are_end : (b w : Bool) → is_none (word_in l) ≡ b → are_samples (n - i) l ≡ w → w ≡ b
    unfolding are_samples
    are_end b w e inv = sym inv ∙ ap (λ (k : ℕ). are_samples k l) none_left ∙ e

    pub row_end : (row w : List Float) → take i row ++ samples_of (n - i) l ≡ w → take i row ≡ w
    unfolding samples_of
    row_end row w inv = sym (append-nil (take i row)) ∙ sym (ap (λ (k : ℕ). take i row ++ samples_of k l) none_left) ∙ inv

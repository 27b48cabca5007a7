-- Places of the first byte that meets a test, words, and texts that are compared. Cited by the proofs of `words`.
-- Assumes nothing.
use mathlib.Core.Path.{◌≡◌, refl, sym, ap, ◌∙◌}
use mathlib.Core.Bool.{Bool, true, false, cond, ◌&&◌}
use mathlib.Core.List.{List, [], ◌∷◌}
use Prim.Native.Nat.{ℕ, suc, ◌+◌, ◌-◌, ◌<◌, ◌≤◌}
use native.Mathlib.Omega.{arith}
use lib.Dec.{eqb}
use lib.ListN.{length, take, drop, length-drop}
use lib.Seq.{drop-drop, take_all}
use Rattle.std.proofs.Common.{Option, None, Some, MatchOption, unwrap_or}
use Rattle.std.specs.List.{AllWithin, HoldsAt}
use Rattle.std.specs.Str.{bytes_eq}
use Rattle.std.proofs.lemmas.Option.{MatchOption-at_some}
use Rattle.std.proofs.lemmas.Iterator.{index_from_first}
use Rattle.lesson_words.specs.Words.{until, is_ink, is_blank_byte, ink_of, word_in, rest_of, same_text}
use Rattle.lesson_words.specs.Inside.{behind_words}

-- l from place i on, as the slice there
abbrev from_on : ℕ → List ℕ → List ℕ
from_on i l = take (length l - i) (drop i l)

module _ (p : ℕ → Bool) (l : List ℕ) (i : ℕ) (h : i ≤ length l) (r : Option ℕ)
    (first : MatchOption r (AllWithin (λ x. p x ≡ false) (from_on i l) 0 (length (from_on i l)))
    (λ n. (n < length (from_on i l)) × HoldsAt (λ x. p x ≡ true) (from_on i l) n × AllWithin (λ x. p x ≡ false) (from_on i l) 0 n)) where
  whole : from_on i l ≡ drop i l
  whole = take_all (length l - i) (drop i l) (omega (arith, length-drop i l))

  pub passed : until p (from_on i l) ≡ unwrap_or r (length (from_on i l))
  unfolding until
  passed =
      index_from_first (until p) (λ x. p x ≡ true) (λ x. p x ≡ false) refl (λ x m e. ap (λ (b : Bool). cond b 0 (suc (until p m))) e)
      (λ x m e. let s : suc (until p m) ≡ until p m + 1 = omega arith in ap (λ (b : Bool). cond b 0 (suc (until p m))) e ∙ s) (from_on i l) r first

  -- where r is k bytes on, or none
  at : (k : ℕ) → unwrap_or r (length (from_on i l)) ≡ k → until p (drop i l) ≡ k
  at k e = ap (until p) (sym whole) ∙ passed ∙ e

  -- the test holds of a byte
  pub found : (n : ℕ) → r ≡ Some n → (i + n ≤ length l) × (i + n ≡ i + until p (drop i l))
  found n e =
      let w = MatchOption-at_some _ _ n e first in
      let z : until p (drop i l) ≡ n = at n (ap (λ (o : Option ℕ). unwrap_or o (length (from_on i l))) e) in
      (omega (arith, w.0, ap length whole, length-drop i l), ap (λ (k : ℕ). i + k) (sym z))

  -- it holds of none
  pub nowhere : r ≡ None → (length l ≤ length l) × (length l ≡ i + until p (drop i l))
  nowhere e =
      let z : until p (drop i l) ≡ length (from_on i l) = at (length (from_on i l)) (ap (λ (o : Option ℕ). unwrap_or o (length (from_on i l))) e) in
      (omega arith, omega (arith, z, ap length whole, length-drop i l))

-- one word more is passed: from `at` to its first byte, and from there to the blank behind it
module _ (l : List ℕ) (at from to : ℕ) (start : from ≡ at + until is_ink (drop at l)) (end : to ≡ from + until is_blank_byte (drop from l)) where
  ink_at : ink_of (drop at l) ≡ drop from l
  unfolding ink_of
  ink_at = drop-drop (until is_ink (drop at l)) at l ∙ ap (λ (k : ℕ). drop k l) (sym start)

  -- and what stands behind it
  pub rest_at : drop to l ≡ rest_of (drop at l)
  unfolding rest_of
  rest_at =
      sym
      (ap (λ (m : List ℕ). drop (until is_blank_byte m) m) ink_at ∙ drop-drop (until is_blank_byte (drop from l)) from l
      ∙ ap (λ (k : ℕ). drop k l) (sym end))

  -- what stands between is the word
  pub word_at : take (to - from) (drop from l) ≡ word_in (drop at l)
  unfolding word_in
  word_at =
      let e : to - from ≡ until is_blank_byte (drop from l) = omega (arith, end) in
      ap (λ (k : ℕ). take k (drop from l)) e ∙ sym (ap (λ (m : List ℕ). take (until is_blank_byte m) m) ink_at)

-- no word is passed
pub behind_start : (n : ℕ) (text : List ℕ) → behind_words (n - 0) (drop 0 text) ≡ behind_words n text
behind_start n text = let k : n - 0 ≡ n = omega arith in ap (λ (j : ℕ). behind_words j text) k

-- i of n words are passed, up to place `at`
module _ (text w : List ℕ) (n i at : ℕ) (inv : behind_words (n - i) (drop at text) ≡ w) where
  pub behind_on : (to : ℕ) → i < n → drop to text ≡ rest_of (drop at text) → behind_words (n - (i + 1)) (drop to text) ≡ w
  unfolding behind_words
  behind_on to h rest =
      let k : n - i ≡ suc (n - (i + 1)) = omega (arith, h) in
      ap (λ (l : List ℕ). behind_words (n - (i + 1)) l) rest ∙ sym (ap (λ (j : ℕ). behind_words j (drop at text)) k) ∙ inv

  pub behind_end : n ≤ i → drop at text ≡ w
  unfolding behind_words
  behind_end h = let k : n - i ≡ 0 = omega (arith, h) in sym (ap (λ (j : ℕ). behind_words j (drop at text)) k) ∙ inv

-- byte for byte, as `==` compares
pub same_bytes : (l m : List ℕ) → bytes_eq l m ≡ same_text l m
unfolding same_text
same_bytes [] [] = refl
same_bytes [] (c ∷ m) = refl
same_bytes (b ∷ l) [] = refl
same_bytes (b ∷ l) (c ∷ m) = ap (λ (t : Bool). eqb b c && t) (same_bytes l m)

-- A table of calls is searched entry by entry. Cited by the proof of `words::look_up`.
-- Assumes nothing.
use mathlib.Core.Path.{◌≡◌, sym, ap, ◌∙◌}
use mathlib.Core.Bool.{Bool, true, false, cond}
use mathlib.Core.List.{List, []}
use Prim.Native.Nat.{ℕ, suc, ◌+◌, ◌-◌, ◌<◌, ◌≤◌}
use native.Mathlib.Omega.{arith}
use lib.ListN.{drop}
use Rattle.lesson_words.specs.Words.{word_in, rest_of, same_text}
use Rattle.lesson_words.specs.Inside.{number_in, kinds_in}

module _ (name table word : List ℕ) (at mid next : ℕ) (here : word ≡ word_in (drop at table)) (behind : drop mid table ≡ rest_of (drop at table))
    (further : drop next table ≡ rest_of (drop mid table)) (r : Bool) (is : r ≡ same_text name word) where
  same : r ≡ same_text name (word_in (drop at table))
  same = is ∙ ap (same_text name) here

  rest : rest_of (rest_of (drop at table)) ≡ drop next table
  rest = sym (further ∙ ap rest_of behind)

  -- of n and one more entries the first is the one that is searched, or not
  number_here : (n : ℕ) → r ≡ true → number_in (suc n) name (drop at table) ≡ 0
  unfolding number_in
  number_here n t = ap (λ (b : Bool). cond b 0 (suc (number_in n name (rest_of (rest_of (drop at table)))))) (sym same ∙ t)

  number_further : (n : ℕ) → r ≡ false → number_in (suc n) name (drop at table) ≡ suc (number_in n name (drop next table))
  unfolding number_in
  number_further n t =
      ap (λ (b : Bool). cond b 0 (suc (number_in n name (rest_of (rest_of (drop at table)))))) (sym same ∙ t) ∙ ap (λ (l : List ℕ). suc (number_in n name l)) rest

  kinds_here : (n : ℕ) → r ≡ true → kinds_in (suc n) name (drop at table) ≡ word_in (drop mid table)
  unfolding kinds_in
  kinds_here n t =
      ap (λ (b : Bool). cond b (word_in (rest_of (drop at table))) (kinds_in n name (rest_of (rest_of (drop at table))))) (sym same ∙ t) ∙ ap word_in (sym behind)

  kinds_further : (n : ℕ) → r ≡ false → kinds_in (suc n) name (drop at table) ≡ kinds_in n name (drop next table)
  unfolding kinds_in
  kinds_further n t =
      ap (λ (b : Bool). cond b (word_in (rest_of (drop at table))) (kinds_in n name (rest_of (rest_of (drop at table))))) (sym same ∙ t) ∙ ap (kinds_in n name) rest

  -- so it is at each turn of the loop
  module _ (count i : ℕ) (h : i < count) where
    s : count - i ≡ suc (count - (i + 1))
    s = omega arith

    pub number_found : (w : ℕ) → r ≡ true → i + number_in (count - i) name (drop at table) ≡ w → i ≡ w
    number_found w t inv =
        let z : number_in (count - i) name (drop at table) ≡ 0 = ap (λ (n : ℕ). number_in n name (drop at table)) s ∙ number_here (count - (i + 1)) t in
        omega (arith, z, inv)

    pub number_on : (w : ℕ) → r ≡ false → i + number_in (count - i) name (drop at table) ≡ w → i + 1 + number_in (count - (i + 1)) name (drop next table) ≡ w
    number_on w t inv =
        let z : number_in (count - i) name (drop at table) ≡ suc (number_in (count - (i + 1)) name (drop next table)) =
        ap (λ (n : ℕ). number_in n name (drop at table)) s ∙ number_further (count - (i + 1)) t in
        omega (arith, z, inv)

    pub kinds_found : (w : List ℕ) → r ≡ true → kinds_in (count - i) name (drop at table) ≡ w → word_in (drop mid table) ≡ w
    kinds_found w t inv = sym (kinds_here (count - (i + 1)) t) ∙ ap (λ (n : ℕ). kinds_in n name (drop at table)) (sym s) ∙ inv

    pub kinds_on : (w : List ℕ) → r ≡ false → kinds_in (count - i) name (drop at table) ≡ w → kinds_in (count - (i + 1)) name (drop next table) ≡ w
    kinds_on w t inv = sym (kinds_further (count - (i + 1)) t) ∙ ap (λ (n : ℕ). kinds_in n name (drop at table)) (sym s) ∙ inv

-- before the first entry, and behind the last
module _ (name table : List ℕ) (count : ℕ) where
  z : count - 0 ≡ count
  z = omega arith

  pub number_starts : 0 + number_in (count - 0) name table ≡ number_in count name table
  number_starts = let e : number_in (count - 0) name table ≡ number_in count name table = ap (λ (n : ℕ). number_in n name table) z in omega (arith, e)

  pub kinds_starts : kinds_in (count - 0) name table ≡ kinds_in count name table
  kinds_starts = ap (λ (n : ℕ). kinds_in n name table) z

  module _ (at i : ℕ) (h : count ≤ i) (end : i ≤ count) where
    over : count - i ≡ 0
    over = omega arith

    pub number_none : (w : ℕ) → i + number_in (count - i) name (drop at table) ≡ w → w ≡ count
    unfolding number_in
    number_none w inv = let e : number_in (count - i) name (drop at table) ≡ 0 = ap (λ (n : ℕ). number_in n name (drop at table)) over in omega (arith, e, inv)

    pub kinds_none : (w : List ℕ) → kinds_in (count - i) name (drop at table) ≡ w → [] ≡ w
    unfolding kinds_in
    kinds_none w inv = sym (ap (λ (n : ℕ). kinds_in n name (drop at table)) over) ∙ inv

-- The words of a number, found in a row of texts that are those of the definition. Cited by the proof of `words_of`.
-- Assumes nothing.
use mathlib.Core.Path.{◌≡◌, refl, sym, ap, ◌∙◌}
use mathlib.Core.List.{List, [], ◌∷◌, map}
use Prim.Native.Nat.{ℕ, zero, suc, ◌-◌, ◌<◌, ◌≤◌}
use native.Mathlib.Omega.{arith}
use lib.ListN.{length, get_or, get_or-eq_default}
use borrow.Author.Tests.{ne_eqb}
use Rattle.std.proofs.Common.{Bor}
use Rattle.std.proofs.Math.ListN as listN
use Rattle.std.proofs.lemmas.List.{get_or-map}
use Rattle.laws.specs.Text.{bytes}
use Rattle.refusal_words.specs.Words.{conditions, words_of}

-- in the order of the numbers; 0, which is no refusal's, has none
unfoldable pub texts : List (List ℕ)
texts = [] ∷ map bytes conditions

words_listed : (n : ℕ) → get_or texts n [] ≡ words_of n
unfolding texts words_of
words_listed zero = refl
words_listed (suc n) =
    let e : suc n - 1 ≡ n = omega arith in
    simp (ne_eqb (suc n) 0 (λ z. omega arith), e) (listN.get_or-map bytes conditions n "")

pub listed : (row : List (Bor (List ℕ))) → map (λ (w : Bor (List ℕ)). w.now) row ≡ texts → (n : ℕ) → n < length row → (d : Bor (List ℕ))
    → (get_or row n d).now ≡ words_of n
listed row e n h d =
    sym (get_or-map (λ (w : Bor (List ℕ)). w.now) row n d [] h) ∙ ap (λ (l : List (List ℕ)). get_or l n []) e ∙ words_listed n

pub none_listed : (n : ℕ) → 25 ≤ n → [] ≡ words_of n
unfolding texts conditions
none_listed n h = sym (get_or-eq_default texts [] {n = n} h) ∙ words_listed n

-- Two lists, place by place: a loop that compares them, and what a test that only equals pass says of them. And one more behind a list. Cited by the crates seats and plans.
-- Assumes nothing.
use mathlib.Core.Path.{◌≡◌, refl, sym, ap, ◌∙◌}
use mathlib.Core.Bool.{Bool, true, false, ◌&&◌, and_assoc}
use mathlib.Core.Bool as bool
use mathlib.Core.List.{List, [], ◌∷◌, ◌++◌}
use Prim.Native.Nat.{ℕ, ◌+◌, ◌≤◌, ◌<◌}
use native.Mathlib.Numerals.{add-one}
use lib.ListN.{length, drop, get_or, drop_of_length-le}
use lib.Seq.{drop-cons}
use Rattle.laws.specs.Lists.{every, pairs, matches}
use Rattle.laws.proofs.Bools.{true_false, and_true, both}

module _ {A : Type 0} (R : A → A → Bool) where
  -- ---- what was passed is the same, and the rest is to be compared
  module _ (l m : List A) (i : ℕ) (d : A) where
    pub matches_turn : (ok h w : Bool) → i < length l → i < length m → (ok && matches R (drop i l) (drop i m)) ≡ w → h ≡ R (get_or l i d) (get_or m i d)
        → ((ok && h) && matches R (drop (i + 1) l) (drop (i + 1) m)) ≡ w
    unfolding matches
    matches_turn ok h w a b inv e =
        let x = get_or l i d in
        let y = get_or m i d in
        let left : drop i l ≡ x ∷ drop (i + 1) l = drop-cons l i d a ∙ ap (λ (j : ℕ). x ∷ drop j l) (sym (add-one i)) in
        let right : drop i m ≡ y ∷ drop (i + 1) m = drop-cons m i d b ∙ ap (λ (j : ℕ). y ∷ drop j m) (sym (add-one i)) in
        let step : matches R (drop i l) (drop i m) ≡ (R x y && matches R (drop (i + 1) l) (drop (i + 1) m)) =
        ap (λ (t : List A). matches R t (drop i m)) left ∙ ap (λ (t : List A). matches R (x ∷ drop (i + 1) l) t) right in
        and_assoc ok h _ ∙ ap (λ (t : Bool). ok && (t && matches R (drop (i + 1) l) (drop (i + 1) m))) e ∙ ap (λ (t : Bool). ok && t) (sym step) ∙ inv

    pub matches_ended : (ok w : Bool) → length l ≤ i → length m ≤ i → (ok && matches R (drop i l) (drop i m)) ≡ w → ok ≡ w
    unfolding matches
    matches_ended ok w a b inv =
        let none : matches R (drop i l) (drop i m) ≡ true = rw (drop_of_length-le l a, drop_of_length-le m b) in
        sym (bool.and-true ok) ∙ ap (λ (t : Bool). ok && t) (sym none) ∙ inv

  -- ---- a test that only equals pass
  pub matches_equal : ((x y : A) → R x y ≡ true → x ≡ y) → (l m : List A) → matches R l m ≡ true → l ≡ m
  unfolding matches
  matches_equal only [] [] e = refl
  matches_equal only [] (y ∷ m) e = true_false (sym e)
  matches_equal only (x ∷ l) [] e = true_false (sym e)
  matches_equal only (x ∷ l) (y ∷ m) e =
      let p = and_true (R x y) (matches R l m) e in
      ap (λ (t : A). t ∷ l) (only x y p.0) ∙ ap (λ (t : List A). y ∷ t) (matches_equal only l m p.1)

  -- and each does with itself
  pub matches_self : ((x : A) → R x x ≡ true) → (l : List A) → matches R l l ≡ true
  unfolding matches
  matches_self self [] = refl
  matches_self self (x ∷ l) = both (R x x) (matches R l l) (self x) (matches_self self l)

-- ---- one more behind a list
and_cross : (a b c d : Bool) → ((a && b) && (c && d)) ≡ ((a && c) && (b && d))
and_cross true true c d = refl
and_cross true false true d = refl
and_cross true false false d = refl
and_cross false b c d = refl

module _ {A : Type 0} where
  every_behind : (p : A → Bool) (l : List A) (x : A) → every p (l ++ x ∷ []) ≡ (every p l && p x)
  unfolding every
  every_behind p [] x = bool.and-true (p x)
  every_behind p (y ∷ l) x = ap (λ (t : Bool). p y && t) (every_behind p l x) ∙ sym (and_assoc (p y) (every p l) (p x))

  pub pairs_behind : (R : A → A → Bool) (l : List A) (x : A) → pairs R (l ++ x ∷ []) ≡ (pairs R l && every (λ y. R y x) l)
  unfolding pairs every
  pairs_behind R [] x = refl
  pairs_behind R (y ∷ l) x = rw (every_behind (R y) l x, pairs_behind R l x) (and_cross (every (R y) l) (R y x) (pairs R l) (every (λ y. R y x) l))

  -- two relations in one
  every_both : (p q : A → Bool) (l : List A) → every (λ x. p x && q x) l ≡ (every p l && every q l)
  unfolding every
  every_both p q [] = refl
  every_both p q (x ∷ l) = rw (every_both p q l) (and_cross (p x) (q x) (every p l) (every q l))

  pub pairs_both : (R S : A → A → Bool) (l : List A) → pairs (λ x y. R x y && S x y) l ≡ (pairs R l && pairs S l)
  unfolding pairs
  pairs_both R S [] = refl
  pairs_both R S (x ∷ l) = rw (every_both (R x) (S x) l, pairs_both R S l) (and_cross (every (R x) l) (every (S x) l) (pairs R l) (pairs S l))

-- Tests that hold of one of a list at least, and what is counted, where one element is put in; and two tests in one. Cited by the proofs of summaries.
-- Assumes nothing.
use mathlib.Core.Path.{◌≡◌, refl, sym, ap, ◌∙◌}
use mathlib.Core.Bool.{Bool, true, false, not, ◌&&◌, ◌||◌}
use mathlib.Core.List.{List, [], ◌∷◌, ◌++◌}
use Prim.Native.Nat.{ℕ, ◌+◌}
use native.Mathlib.Omega.{arith}
use Rattle.laws.specs.Lists.{every, some, total}
use Rattle.laws.proofs.Lists.{hd, tl}

-- ---- truth values
or_turn : (a b c : Bool) → (a || (b || c)) ≡ (b || (a || c))
or_turn true true c = refl
or_turn true false c = refl
or_turn false b c = refl

or_cross : (a b c d : Bool) → ((a || b) || (c || d)) ≡ ((a || c) || (b || d))
or_cross true b c d = refl
or_cross false true true d = refl
or_cross false true false d = refl
or_cross false false c d = refl

and_or : (a b c : Bool) → (a && (b || c)) ≡ ((a && b) || (a && c))
and_or true b c = refl
and_or false b c = refl

and_none : (a : Bool) → (a && false) ≡ false
and_none true = refl
and_none false = refl

module _ {A : Type 0} where
  -- where one is put in
  pub some_put : (p : A → Bool) (a : List A) (x : A) (b : List A) → some p (a ++ x ∷ b) ≡ (p x || some p (a ++ b))
  unfolding some
  some_put p [] x b = refl
  some_put p (y ∷ a) x b = ap (λ (t : Bool). p y || t) (some_put p a x b) ∙ or_turn (p y) (p x) (some p (a ++ b))

  pub total_put : (f : A → ℕ) (a : List A) (x : A) (b : List A) → total f (a ++ x ∷ b) ≡ f x + total f (a ++ b)
  unfolding total
  total_put f [] x b = refl
  total_put f (y ∷ a) x b = omega (arith, total_put f a x b)

  -- two tests that say the same of each that passes a third
  pub some_same : (e p q : A → Bool) (l : List A) → every e l ≡ true → ((x : A) → e x ≡ true → p x ≡ q x) → some p l ≡ some q l
  unfolding some
  some_same e p q [] t h = refl
  some_same e p q (x ∷ l) t h = rw (h x (hd e x l t), some_same e p q l (tl e x l t) h)

  pub some_alike : (p q : A → Bool) (l : List A) → ((x : A) → p x ≡ q x) → some p l ≡ some q l
  unfolding some
  some_alike p q [] h = refl
  some_alike p q (x ∷ l) h = rw (h x, some_alike p q l h)

  -- one of two tests
  pub some_or : (p q : A → Bool) (l : List A) → some (λ x. p x || q x) l ≡ (some p l || some q l)
  unfolding some
  some_or p q [] = refl
  some_or p q (x ∷ l) = ap (λ (t : Bool). (p x || q x) || t) (some_or p q l) ∙ or_cross (p x) (q x) (some p l) (some q l)

  -- a test beside one that does not ask which
  pub some_and : (a : Bool) (p : A → Bool) (l : List A) → some (λ x. a && p x) l ≡ (a && some p l)
  unfolding some
  some_and a p [] = sym (and_none a)
  some_and a p (x ∷ l) = ap (λ (t : Bool). (a && p x) || t) (some_and a p l) ∙ sym (and_or a (p x) (some p l))

  pub some_none : (l : List A) → some (λ x. false) l ≡ false
  unfolding some
  some_none [] = refl
  some_none (x ∷ l) = some_none l

  pub some_every : (p : A → Bool) (l : List A) → some p l ≡ not (every (λ x. not (p x)) l)
  unfolding some every
  some_every p [] = refl
  some_every p (x ∷ l) = rw (some_every p l) (lone (p x) (every (λ x. not (p x)) l))
    where
      lone : (a e : Bool) → (a || not e) ≡ not (not a && e)
      lone true e = refl
      lone false e = refl

-- one of this list with one of that, whichever is asked first
pub some_swap : {A B : Type 0} (r : A → B → Bool) (l : List A) (m : List B) → some (λ b. some (λ a. r a b) l) m ≡ some (λ a. some (r a) m) l
unfolding some
some_swap r [] m = some_none m
some_swap r (a ∷ l) m = some_or (r a) (λ b. some (λ x. r x b) l) m ∙ ap (λ (t : Bool). some (r a) m || t) (some_swap r l m)

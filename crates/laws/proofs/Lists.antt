-- Tests and sums over a list in which one element is changed or put in. Cited by the proofs of the class book.
-- Assumes nothing.
use mathlib.Core.Path.{◌≡◌, refl, sym, ap, ◌∙◌}
use mathlib.Core.List.{List, [], ◌∷◌}
use mathlib.Core.Bool.{Bool, true, false, cond}
use mathlib.Core.Logic.{◌⊎◌, inl, inr}
use Prim.Native.Nat.{ℕ, zero, suc, ◌+◌, ◌≤◌, ◌<◌}
use native.Mathlib.Nat.{not-suc-le-zero, le_of_suc-le-suc, suc-add}
use native.Mathlib.Numerals.{one-add}
use native.Mathlib.Omega.{arith}
use lib.ListN.{length, take, set, get_or}
use Rattle.laws.specs.Lists.{every, pairs, total, one, insert_at, remove_at}
use Rattle.laws.proofs.Bools.{true_false, and_true}
pub use Rattle.laws.proofs.Bools.{both}
pub use Rattle.laws.proofs.Cases.{by_cases}

module _ {A : Type 0} (p : A → Bool) where
  pub hd : (x : A) (l : List A) → every p (x ∷ l) ≡ true → p x ≡ true
  unfolding every
  hd x l e = (and_true (p x) (every p l) e).0

  pub tl : (x : A) (l : List A) → every p (x ∷ l) ≡ true → every p l ≡ true
  unfolding every
  tl x l e = (and_true (p x) (every p l) e).1

  pub cons : (x : A) (l : List A) → p x ≡ true → every p l ≡ true → every p (x ∷ l) ≡ true
  unfolding every
  cons x l a b = both (p x) (every p l) a b

  pub every_at : (l : List A) (i : ℕ) (d : A) → i < length l → every p l ≡ true → p (get_or l i d) ≡ true
  every_at [] i d h e = absurd (not-suc-le-zero h)
  every_at (x ∷ l) zero d h e = hd x l e
  every_at (x ∷ l) (suc i) d h e = every_at l i d (le_of_suc-le-suc h) (tl x l e)

  -- of the first so many, where it holds of the first few more
  pub every_front : (l : List A) (i n : ℕ) → i ≤ n → every p (take n l) ≡ true → every p (take i l) ≡ true
  unfolding every
  every_front [] zero n h e = refl
  every_front [] (suc i) zero h e = refl
  every_front [] (suc i) (suc n) h e = refl
  every_front (x ∷ l) zero n h e = refl
  every_front (x ∷ l) (suc i) zero h e = absurd (not-suc-le-zero h)
  every_front (x ∷ l) (suc i) (suc n) h e = cons x (take i l) (hd x (take n l) e) (every_front l i n (le_of_suc-le-suc h) (tl x (take n l) e))

  -- and what follows from it
  pub every_weaker : (q : A → Bool) → ((x : A) → p x ≡ true → q x ≡ true) → (l : List A) → every p l ≡ true → every q l ≡ true
  unfolding every
  every_weaker q h [] e = refl
  every_weaker q h (x ∷ l) e = both (q x) (every q l) (h x (hd x l e)) (every_weaker q h l (tl x l e))

  pub every_alike : (q : A → Bool) → ((x : A) → p x ≡ q x) → (l : List A) → every p l ≡ every q l
  unfolding every
  every_alike q h [] = refl
  every_alike q h (x ∷ l) = rw (h x, every_alike q h l)

  pub every_set : (l : List A) (i : ℕ) (a : A) → every p l ≡ true → p a ≡ true → every p (set l i a) ≡ true
  every_set [] i a e q = e
  every_set (x ∷ l) zero a e q = cons a l q (tl x l e)
  every_set (x ∷ l) (suc i) a e q = cons x (set l i a) (hd x l e) (every_set l i a (tl x l e) q)

  pub every_insert : (n : ℕ) (a : A) (l : List A) → every p l ≡ true → p a ≡ true → every p (insert_at n a l) ≡ true
  every_insert zero a l e q = cons a l q e
  every_insert (suc n) a [] e q = cons a [] q e
  every_insert (suc n) a (x ∷ l) e q = cons x (insert_at n a l) (hd x l e) (every_insert n a l (tl x l e) q)

-- and of those that are left where one is taken out
pub every_remove : {A : Type 0} (p : A → Bool) (l : List A) (i : ℕ) → every p l ≡ true → every p (remove_at i l) ≡ true
every_remove p [] zero e = e
every_remove p [] (suc i) e = rw suc-add e
every_remove p (x ∷ l) zero e = tl p x l e
every_remove p (x ∷ l) (suc i) e = rw suc-add (cons p x (remove_at i l) (hd p x l e) (every_remove p l i (tl p x l e)))

pub every_true : {A : Type 0} (l : List A) → every (λ x. true) l ≡ true
unfolding every
every_true [] = refl
every_true (x ∷ l) = every_true l

pub total_set : {A : Type 0} (f : A → ℕ) (l : List A) (i : ℕ) (a d : A) → i < length l → total f (set l i a) + f (get_or l i d) ≡ total f l + f a
unfolding total
total_set f [] i a d h = absurd (not-suc-le-zero h)
total_set f (x ∷ l) zero a d h = omega arith
total_set f (x ∷ l) (suc i) a d h = omega (arith, total_set f l i a d (le_of_suc-le-suc h))

-- x goes in after those for which c holds; they are the first, and each is right beside x
module _ {A : Type 0} (R : A → A → Bool) (c : A → Bool) (x : A) (first : (y z : A) → R y z ≡ true → c z ≡ true → c y ≡ true) where
  abbrev beside : A → Bool
  beside y = cond (c y) (R y x) (R x y)

  abbrev rank : List A → ℕ
  rank l = total (λ y. one (c y)) l

  -- after one for which c fails, all fail, so x stands before each
  all_after : (y : A) (l : List A) → c y ≡ false → every (R y) l ≡ true → every beside l ≡ true → (rank l ≡ 0) × (every (R x) l ≡ true)
  unfolding every total
  all_after y [] n r e = (refl, refl)
  all_after y (z ∷ l) n r e = go (all_after y l n (tl (R y) z l r) (tl beside z l e)) (by_cases (c z))
    where
      go : (rank l ≡ 0) × (every (R x) l ≡ true) → ((c z ≡ true) ⊎ (c z ≡ false)) → (rank (z ∷ l) ≡ 0) × (every (R x) (z ∷ l) ≡ true)
      go rest (inl t) = true_false (sym (first y z (hd (R y) z l r) t) ∙ n)
      go rest (inr f) =
          let h : one (c z) ≡ 0 = ap one f in
          (omega (arith, rest.0), cons (R x) z l (rw f at (hd beside z l e)) rest.1)

  pub placed : (l : List A) → pairs R l ≡ true → every beside l ≡ true → pairs R (insert_at (rank l) x l) ≡ true
  unfolding every pairs total
  placed [] o e = refl
  placed (y ∷ l) o e = go (placed l ordered.1 (tl beside y l e)) (by_cases (c y))
    where
      ordered : (every (R y) l ≡ true) × (pairs R l ≡ true)
      ordered = and_true (every (R y) l) (pairs R l) o

      go : pairs R (insert_at (rank l) x l) ≡ true → ((c y ≡ true) ⊎ (c y ≡ false)) → pairs R (insert_at (rank (y ∷ l)) x (y ∷ l)) ≡ true
      go rest (inl t) =
          let h : rank (y ∷ l) ≡ suc (rank l) = ap (λ (k : Bool). one k + rank l) t ∙ one-add (rank l) in
          rw h (both (every (R y) (insert_at (rank l) x l)) (pairs R (insert_at (rank l) x l)) (every_insert (R y) (rank l) x l ordered.0 (rw t at (hd beside y l e))) rest)
      go rest (inr f) =
          let r = all_after y l f ordered.0 (tl beside y l e) in
          let k : one (c y) ≡ 0 = ap one f in
          let h : rank (y ∷ l) ≡ 0 = omega (arith, k, r.0) in
          rw h (both (every (R x) (y ∷ l)) (pairs R (y ∷ l)) (cons (R x) y l (rw f at (hd beside y l e)) r.1) o)

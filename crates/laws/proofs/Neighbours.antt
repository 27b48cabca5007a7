-- Neighbours are enough: for a relation that is transitive among those that pass a test, a chain of neighbours is a relation of all pairs. Cited by the crate seats.
-- Assumes nothing.
use mathlib.Core.Path.{◌≡◌, refl, sym, ap, ◌∙◌}
use mathlib.Core.Logic.{⊎_elim}
use mathlib.Core.Bool.{Bool, true, false, ◌&&◌, and-false}
use mathlib.Core.List.{List, [], ◌∷◌}
use Rattle.laws.specs.Lists.{every, pairs, chain}
use Rattle.laws.proofs.Bools.{and_true}
use Rattle.laws.proofs.Cases.{by_cases}
use Rattle.laws.proofs.Lists.{hd, tl, cons}

module _ {A : Type 0} (R : A → A → Bool) (p : A → Bool)
    (trans : (x y z : A) → p x ≡ true → p y ≡ true → p z ≡ true → R x y ≡ true → R y z ≡ true → R x z ≡ true) where
  later : (x y : A) (l : List A) → p x ≡ true → p y ≡ true → every p l ≡ true → R x y ≡ true → every (R y) l ≡ true → every (R x) l ≡ true
  unfolding every
  later x y [] hx hy hl r e = refl
  later x y (z ∷ l) hx hy hl r e =
      cons (R x) z l (trans x y z hx hy (hd p z l hl) r (hd (R y) z l e)) (later x y l hx hy (tl p z l hl) r (tl (R y) z l e))

  pub chain_pairs : (l : List A) → every p l ≡ true → chain R l ≡ pairs R l
  unfolding every pairs chain
  chain_pairs [] e = refl
  chain_pairs (x ∷ []) e = refl
  chain_pairs (x ∷ y ∷ l) e =
      ap (λ (b : Bool). R x y && b) (chain_pairs (y ∷ l) (tl p x (y ∷ l) e))
      ∙ ⊎_elim all_true (λ f. rw f (and-false (R x y) ∙ sym (and-false (R x y && every (R x) l)))) (by_cases (pairs R (y ∷ l)))
    where
      both_sides : Type 0
      both_sides = (R x y && pairs R (y ∷ l)) ≡ ((R x y && every (R x) l) && pairs R (y ∷ l))

      stands : pairs R (y ∷ l) ≡ true → R x y ≡ true → both_sides
      stands t r =
          let o = and_true (every (R y) l) (pairs R l) t in
          let px = hd p x (y ∷ l) e in
          let pl = tl p x (y ∷ l) e in
          let rest : every (R x) l ≡ true = later x y l px (hd p y l pl) (tl p y l pl) r o.0 in
          simp (rest, r)

      falls : R x y ≡ false → both_sides
      falls r = simp r

      all_true : pairs R (y ∷ l) ≡ true → both_sides
      all_true t = ⊎_elim (stands t) falls (by_cases (R x y))

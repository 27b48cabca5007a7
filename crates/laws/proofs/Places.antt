-- A list with one element put in or taken out, and a row that holds a list and the same filling behind it. Cited by the proofs of the class book.
-- Assumes nothing.
use mathlib.Core.Path.{◌≡◌, refl, ap, ◌∙◌}
use mathlib.Core.List.{List, [], ◌∷◌, ◌++◌, append_assoc}
use mathlib.Core.Bool.{Bool, true}
use Prim.Native.Nat.{ℕ, zero, suc, ◌+◌, ◌-◌, ◌≤◌, ◌<◌}
use native.Mathlib.Omega.{arith}
use lib.ListN.{length, take, drop, get_or, replicate, length-append, length-take, length-drop, length-replicate, replicate-append-replicate}
use lib.Seq.{length-take-le, take-append-le, drop-append-le, take_at, get_or_at}
use Rattle.laws.specs.Lists.{every, insert_at, remove_at}
use Rattle.laws.proofs.Lists.{hd, tl, cons}

-- a test that only one value passes
module _ {A : Type 0} (p : A → Bool) (a : A) where
  pub every_replicate : p a ≡ true → (n : ℕ) → every p (replicate n a) ≡ true
  unfolding every
  every_replicate h zero = refl
  every_replicate h (suc n) = cons p a (replicate n a) h (every_replicate h n)

  pub every_same : ((x : A) → p x ≡ true → x ≡ a) → (l : List A) → every p l ≡ true → l ≡ replicate (length l) a
  every_same only [] e = refl
  every_same only (x ∷ l) e =
      let first : x ≡ a = only x (hd p x l e) in
      let rest : l ≡ replicate (length l) a = every_same only l (tl p x l e) in
      ap (λ (y : A). y ∷ l) first ∙ ap (λ (m : List A). a ∷ m) rest

-- one element put in, or taken out
module _ {A : Type 0} (p : ℕ) (l : List A) where
  -- how long the list is then
  pub length-insert : (x : A) → length (insert_at p x l) ≡ length l + 1
  length-insert x = omega (arith, length-append (take p l) (x ∷ drop p l), length-take p l, length-drop p l)

  pub length_remove : p < length l → length (remove_at p l) + 1 ≡ length l
  length_remove h = omega (arith, length-append (take p l) (drop (p + 1) l), length-take p l, length-drop (p + 1) l)

  -- the one that is put in is at its place
  pub insert_at_lem : (x d : A) → p ≤ length l → get_or (insert_at p x l) p d ≡ x
  insert_at_lem x d h = get_or_at (take p l) x (drop p l) d p (length-take-le p l h)

  -- what stands behind the list stays there
  pub insert_front : (x : A) (r : List A) → p ≤ length l → insert_at p x (l ++ r) ≡ insert_at p x l ++ r
  insert_front x r h = rw (take-append-le p l r h, drop-append-le p l r h, append_assoc)

  pub remove_front : (r : List A) → p < length l → remove_at p (l ++ r) ≡ remove_at p l ++ r
  remove_front r h =
      let a : p ≤ length l = omega arith in
      let b : p + 1 ≤ length l = omega arith in
      rw (take-append-le p l r a, drop-append-le (p + 1) l r b, append_assoc)

-- a row of w places: the list, and then a up to its end
abbrev filled : {A : Type 0} → ℕ → A → List A → List A
filled w a l = l ++ replicate (w - length l) a

pub filled_length : {A : Type 0} (w : ℕ) (a : A) (l : List A) → length l ≤ w → length (filled w a l) ≡ w
filled_length w a l h = omega (arith, length-append l (replicate (w - length l) a), length-replicate (w - length l) a)

module _ {A : Type 0} (w : ℕ) (a : A) (l : List A) where
  -- one a falls off at the end
  pub filled_insert : (p : ℕ) (x : A) → p ≤ length l → length l < w → take w (insert_at p x (filled w a l)) ≡ filled w a (insert_at p x l)
  filled_insert p x h room =
      let few : length (insert_at p x l) ≡ length l + 1 = length-insert p l x in
      let n : w - length l ≡ (w - length (insert_at p x l)) + 1 = omega arith in
      rw (
        insert_front p l x (replicate (w - length l) a) h,
        n,
        ← replicate-append-replicate (w - length (insert_at p x l)) 1 a,
        ← append_assoc (insert_at p x l) (replicate (w - length (insert_at p x l)) a) (a ∷ []),
      )
      (take_at (filled w a (insert_at p x l)) (a ∷ []) w (filled_length w a (insert_at p x l) (omega arith)))

  -- one a comes in at the end
  pub filled_remove : (p : ℕ) → p < length l → length l ≤ w → remove_at p (filled w a l ++ a ∷ []) ≡ filled w a (remove_at p l)
  filled_remove p h fit =
      let n : w - length (remove_at p l) ≡ (w - length l) + 1 = omega (arith, length_remove p l h) in
      rw (
        append_assoc l (replicate (w - length l) a) (a ∷ []),
        remove_front p l (replicate (w - length l) a ++ a ∷ []) h,
        n,
        ← replicate-append-replicate (w - length l) 1 a,
      )

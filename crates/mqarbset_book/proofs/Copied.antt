-- An array made of what f gives of each element of another, and a test of each. Cited by the proofs of the functions that read and write rows and books.
-- Assumes nothing.
use mathlib.Core.Path.{◌≡◌, refl, sym, ap, subst, ◌∙◌}
use mathlib.Core.Bool.{Bool, ◌&&◌}
use mathlib.Core.Logic.{inl, inr}
use mathlib.Core.List.{List, [], ◌∷◌, map}
use Prim.Native.Nat.{ℕ, zero, suc, ◌+◌, ◌≤◌, ◌<◌}
use native.Mathlib.Omega.{arith}
use lib.ListN.{length, get_or}
use denote.Param.Members.{Mut}
use Rattle.std.proofs.lemmas.Bool.{cases_eq}
use Rattle.std.specs.Array.{IsFromFnResult, IsFromFnResultFrom}
use Rattle.std.specs.Fn.{Called}
use Rattle.std.specs.List.{list_all}
use Rattle.laws.specs.Lists.{every}
use Rattle.laws.proofs.Rows.{get_d_any}

-- place by place
alike : {A B : Type 0} (h : A → B) (xs : List A) (ys : List B) → length ys ≡ length xs → ((i : ℕ) (d : A) (e : B) → i < length xs → get_or ys i e ≡ h (get_or xs i d)) → ys ≡ map h xs
alike h [] [] l p = refl
alike h [] (y ∷ ys) l p = absurd (omega arith)
alike h (x ∷ xs) [] l p = absurd (omega arith)
alike h (x ∷ xs) (y ∷ ys) l p =
    ap (λ (z : _). z ∷ ys) (p 0 x y (omega arith))
    ∙ ap (λ (zs : List _). h x ∷ zs) (alike h xs ys (omega arith) (λ i d e k. p (suc i) d e (omega arith)))

-- `from_fn`, where each call gives h of the element at its index, and leaves the closure as it is
module _ {F A B : Type 0} (g : Mut F (ℕ × Unit {0}) B) (c : F) (h : A → B) (xs : List A) where
  abbrev pub Gives : Type 0
  Gives = (i : ℕ) (y : B) (q : F) → i < length xs → Called g c (i, tt) y q → (q ≡ c) × (d : A) × (y ≡ h (get_or xs i d))

  from_here : (ys : List B) → Gives → (n i : ℕ) (f : F) → f ≡ c → i + n ≡ length xs → IsFromFnResultFrom g f ys i n
      → (k : ℕ) (d : A) (e : B) → i ≤ k → k < length xs → get_or ys k e ≡ h (get_or xs k d)
  from_here ys gives zero i f s l m k d e a b = absurd (omega arith)
  from_here ys gives (suc n) i f s l (q, y, el, call, rest) k d e a b =
      let r = gives i y q (omega arith) (subst (λ (f : F). Called g f (i, tt) y q) s call) in
      elim (cases_eq k i) [
        | inl same ↦ ap (λ (j : ℕ). get_or ys j e) same ∙ el.1 e ∙ r.2 ∙ ap h (get_d_any xs i _ d (omega arith) ∙ ap (λ (j : ℕ). get_or xs j d) (sym same))
        | inr other ↦ from_here ys gives n (i + 1) q r.0 (omega arith) rest k d e (omega arith) b
      ]

pub made : {F A B : Type 0} {g : Mut F (ℕ × Unit {0}) B} {c : F} (h : A → B) (xs : List A) (ys : List B) {n : ℕ} → length xs ≡ n → IsFromFnResult g c ys n → Gives g c h xs → ys ≡ map h xs
made {g = g} {c = c} h xs ys {n} l m gives =
    alike h xs ys (m.long ∙ sym l) (λ k d e b. from_here g c h xs ys gives n 0 c refl (omega arith) m.each k d e (omega arith) b)

-- the test of each, in the words of std
pub every_all : {A : Type 0} (p : A → Bool) (xs : List A) → list_all p xs ≡ every p xs
unfolding every
every_all p [] = refl
every_all p (x ∷ xs) = ap (λ (b : Bool). p x && b) (every_all p xs)

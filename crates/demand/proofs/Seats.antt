-- Plain facts on a row of seats, whatever the place: also where there is none. Cited by Books, Alone and Demand3, and by the crates facts and demand_over_c.
-- Assumes nothing.
use mathlib.Core.Path.{◌≡◌, refl}
use mathlib.Core.Logic.{◌⊎◌, inl, inr}
use mathlib.Core.Bool.{Bool, true}
use mathlib.Core.List.{List, [], ◌∷◌}
use Prim.Native.Nat.{ℕ, zero, suc, ◌+◌, ◌-◌, ◌*◌, ◌≤◌}
use native.Mathlib.Nat.{suc-mul}
use native.Mathlib.Omega.{arith}
use lib.ListN.{length, set, get_or, replicate}
use Rattle.laws.specs.Lists.{every, total}
use Rattle.laws.proofs.Lists.{hd, tl}

module _ {A : Type 0} where
  -- every place of a row of the same
  pub replicate_at : (n i : ℕ) (a : A) → get_or (replicate n a) i a ≡ a
  replicate_at zero i a = refl
  replicate_at (suc n) zero a = refl
  replicate_at (suc n) (suc i) a = replicate_at n i a

  -- with one exchanged, a place shows the new one or what it showed
  pub set_shows : (l : List A) (i j : ℕ) (a d : A) → (get_or (set l i a) j d ≡ a) ⊎ (get_or (set l i a) j d ≡ get_or l j d)
  set_shows [] i j a d = inr refl
  set_shows (x ∷ l) zero zero a d = inl refl
  set_shows (x ∷ l) zero (suc j) a d = inr refl
  set_shows (x ∷ l) (suc i) zero a d = inr refl
  set_shows (x ∷ l) (suc i) (suc j) a d = set_shows l i j a d

  -- two rows of the same length show the same where the same was put
  pub set_alike : (l m : List A) (i : ℕ) (a d : A) → length l ≡ length m → get_or (set l i a) i d ≡ get_or (set m i a) i d
  set_alike [] [] i a d e = refl
  set_alike [] (y ∷ m) i a d e = absurd (omega (arith, e))
  set_alike (x ∷ l) [] i a d e = absurd (omega (arith, e))
  set_alike (x ∷ l) (y ∷ m) zero a d e = refl
  set_alike (x ∷ l) (y ∷ m) (suc i) a d e = set_alike l m i a d (omega (arith, e))

  -- what each passes, and the one that stands where there is none, is passed at every place
  pub every_place : (p : A → Bool) (l : List A) (i : ℕ) (d : A) → p d ≡ true → every p l ≡ true → p (get_or l i d) ≡ true
  every_place p [] i d h e = h
  every_place p (x ∷ l) zero d h e = hd p x l e
  every_place p (x ∷ l) (suc i) d h e = every_place p l i d h (tl p x l e)

  -- a sum to which only place i adds
  pub total_none : (f : A → ℕ) (l : List A) (d : A) → ((j : ℕ) → f (get_or l j d) ≡ 0) → total f l ≡ 0
  unfolding total
  total_none f [] d h = refl
  total_none f (x ∷ l) d h = omega (arith, h 0, total_none f l d (λ j. h (suc j)))

  pub total_one : (f : A → ℕ) (l : List A) (i : ℕ) (d : A) → ((j : ℕ) → (j ≡ i → ⊥) → f (get_or l j d) ≡ 0) → total f l ≤ f (get_or l i d)
  unfolding total
  total_one f [] i d h = omega arith
  total_one f (x ∷ l) zero d h = omega (arith, total_none f l d (λ j. h (suc j) (λ (e : suc j ≡ 0). omega (arith, e))))
  total_one f (x ∷ l) (suc i) d h =
      omega (arith, h 0 (λ (e : 0 ≡ suc i). omega (arith, e)), total_one f l i d (λ j n. h (suc j) (λ (e : suc j ≡ suc i). n (omega (arith, e)))))

  -- a sum is at most m from each, and what each adds beyond m
  pub total_beyond : (f : A → ℕ) (m : ℕ) (l : List A) → total f l ≤ total (λ x. f x - m) l + length l * m
  unfolding total
  total_beyond f m [] = omega arith
  total_beyond f m (x ∷ l) = omega (arith, total_beyond f m l, suc-mul (length l) m)

-- A walk over a seat's bookings that keeps where the next may stand, by the key of the last: in list order so far. Cited by row_ok's proof.
-- Assumes nothing.
use mathlib.Core.Path.{◌≡◌, refl, sym, ap, ◌∙◌}
use mathlib.Core.Logic.{⊎_elim}
use mathlib.Core.Bool.{Bool, true, ◌&&◌}
use mathlib.Core.Bool as bool
use mathlib.Core.List.{List, [], ◌∷◌, ◌++◌}
use Prim.Native.Nat.{ℕ, ◌+◌, ◌<◌}
use native.Mathlib.Omega.{arith}
use lib.Dec.{ltb, leb}
use lib.ListN.{length, take, get_or}
use borrow.Author.Tests.{ltb-true, ltb-false, le-leb, lt-leb}
use Rattle.laws.specs.Lists.{chain}
use Rattle.laws.proofs.Cases.{by_cases}
use Rattle.bookings.specs.declared.Booking.{Booking}
use Rattle.bookings.specs.Bookings.{key, comes}
use Rattle.seats.proofs.Walked.{one_more}

-- the least key that a booking behind these may have
unfoldable pub next_key : List Booking → ℕ
next_key [] = 0
next_key (x ∷ []) = key x + 1
next_key (x ∷ y ∷ l) = next_key (y ∷ l)

next_behind : (l : List Booking) (x : Booking) → next_key (l ++ x ∷ []) ≡ key x + 1
unfolding next_key
next_behind [] x = refl
next_behind (y ∷ []) x = refl
next_behind (y ∷ z ∷ l) x = next_behind (z ∷ l) x

before : (m n : ℕ) → (ltb m n && true) ≡ leb (m + 1) n
before m n = bool.and-true (ltb m n) ∙ ⊎_elim
    (λ t. t ∙ sym (le-leb (m + 1) n (omega (arith, ltb-true m n t))))
    (λ f. f ∙ sym (lt-leb (m + 1) n (omega (arith, ltb-false m n f))))
    (by_cases (ltb m n))

chain_behind : (l : List Booking) (x : Booking) → chain comes (l ++ x ∷ []) ≡ (chain comes l && leb (next_key l) (key x))
unfolding chain comes next_key
chain_behind [] x = sym (le-leb 0 (key x) (omega arith))
chain_behind (y ∷ []) x = before (key y) (key x)
chain_behind (y ∷ z ∷ l) x =
    ap (λ (o : Bool). comes y z && o) (chain_behind (z ∷ l) x) ∙ sym (bool.and_assoc (comes y z) (chain comes (z ∷ l)) (leb (next_key (z ∷ l)) (key x)))

module _ (row : List Booking) (i : ℕ) (d : Booking) (lt : i < length row) (next k : ℕ) (sorted : Bool) where
  pub sorted_on : sorted ≡ chain comes (take i row) → next ≡ next_key (take i row) → k ≡ key (get_or row i d) → (sorted && leb next k) ≡ chain comes (take (i + 1) row)
  sorted_on es en ek = rw (es, en, ek) (sym (chain_behind (take i row) (get_or row i d)) ∙ ap (chain comes) (sym (one_more row i d lt)))

  pub next_on : k ≡ key (get_or row i d) → k + 1 ≡ next_key (take (i + 1) row)
  next_on ek = ap (λ (m : ℕ). m + 1) ek ∙ sym (next_behind (take i row) (get_or row i d)) ∙ ap next_key (sym (one_more row i d lt))

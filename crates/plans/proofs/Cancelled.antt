-- A booking that is cancelled is gone and nothing else changes, since a plan in order has at most one of a timeslot and code; the seat still meets its conditions.
-- Cited by the crate classbook. Assumes nothing.
use mathlib.Core.Path.{◌≡◌, refl, sym, ap, ◌∙◌}
use mathlib.Core.Logic.{⊎_elim}
use mathlib.Core.Bool.{Bool, true, false, not, ◌&&◌}
use mathlib.Core.List.{List, [], ◌∷◌}
use Prim.Native.Nat.{ℕ, suc, ◌+◌, ◌*◌, ◌≤◌, ◌<◌}
use native.Mathlib.Nat.{not-suc-le-zero, le_of_suc-le-suc, zero-add, suc-add}
use native.Mathlib.Numerals.{one-add}
use native.Mathlib.Omega.{arith}
use lib.Dec.{eqb, ltb}
use lib.ListN.{length, get_or, length-take}
use borrow.Author.Tests.{ltb-true, lt-ltb, le-ltb, leb-false, eqb-true, not-true}
use Rattle.laws.specs.Lists.{every, pairs, total, insert_at, remove_at}
use Rattle.laws.proofs.Bools.{and_true}
use Rattle.laws.proofs.Lists.{by_cases, both, hd, tl, cons, every_at}
use Rattle.laws.proofs.Places.{length_remove}
use Rattle.bookings.specs.declared.Booking.{Booking}
use Rattle.seats.specs.declared.Seat.{Seat}
use Rattle.leaves.specs.Leaves.{first_leaf}
use Rattle.bookings.specs.Bookings.{clash, key, comes, fine}
use Rattle.seats.specs.Seats.{held, bookings, stands_in, seat_ok, rank, insert, names, without, with_plan}
use Rattle.plans.specs.Inside.{place_named}
use Rattle.seats.proofs.Sound.{sound}
use Rattle.plans.proofs.Plans.{open_good, with_plan_ok}
use Rattle.plans.proofs.Named.{placed_or_none}

-- ---- x goes in before those that it may stand before
fine_comes : (x y : Booking) → fine x y ≡ true → key x < key y
unfolding fine comes
fine_comes x y e = ltb-true (key x) (key y) (and_true (ltb (key x) (key y)) (not (clash x y)) e).0

rank_none : (x : Booking) (l : List Booking) → every (fine x) l ≡ true → rank x l ≡ 0
unfolding rank total comes
rank_none x [] e = refl
rank_none x (y ∷ l) e =
    let a : key x < key y = fine_comes x y (hd (fine x) y l e) in
    let b : ltb (key y) (key x) ≡ false = le-ltb (key y) (key x) (omega arith) in
    rw (b, zero-add) (rank_none x l (tl (fine x) y l e))

insert_first : (x : Booking) (l : List Booking) → every (fine x) l ≡ true → insert x l ≡ x ∷ l
unfolding insert
insert_first x l e = ap (λ (n : ℕ). insert_at n x l) (rank_none x l e)

-- and behind one that may stand before it
insert_later : (x y : Booking) (l : List Booking) → fine y x ≡ true → insert x (y ∷ l) ≡ y ∷ insert x l
unfolding insert rank total comes
insert_later x y l e =
    let n : rank x (y ∷ l) ≡ suc (rank x l) = rw (lt-ltb (key y) (key x) (fine_comes y x e)) (one-add (rank x l)) in
    ap (λ (n : ℕ). insert_at n x (y ∷ l)) n

module _ (t Q k : ℕ) where
  abbrev other : Booking → Bool
  other y = not (names t Q k y)

  -- ---- the place of the one that is named
  pub named_there : (l : List Booking) (d : Booking) → place_named t Q k l < length l → names t Q k (get_or l (place_named t Q k l) d) ≡ true
  unfolding place_named
  named_there [] d h = absurd (not-suc-le-zero h)
  named_there (y ∷ l) d h = ⊎_elim (λ e. rw e e) (λ e. rw e (named_there l d (le_of_suc-le-suc (rw e at h)))) (by_cases (names t Q k y))

  -- ---- the list without what is named: it holds none, and it is the same where there was none
  pub without_clear : (l : List Booking) → every (λ y. not (names t Q k y)) (without t Q k l) ≡ true
  unfolding every without
  without_clear [] = refl
  without_clear (y ∷ l) =
      ⊎_elim (λ h. rw h (without_clear l)) (λ h. rw h (cons other y (without t Q k l) (ap not h) (without_clear l))) (by_cases (names t Q k y))

  pub without_none : (l : List Booking) → every (λ y. not (names t Q k y)) l ≡ true → without t Q k l ≡ l
  unfolding without
  without_none [] e = refl
  without_none (y ∷ l) e = rw (not-true (names t Q k y) (hd other y l e)) (ap (λ (m : List Booking). y ∷ m) (without_none l (tl other y l e)))

  -- what holds of each, or of each and every later one, still does
  pub without_every : (p : Booking → Bool) (l : List Booking) → every p l ≡ true → every p (without t Q k l) ≡ true
  unfolding without
  without_every p [] e = e
  without_every p (y ∷ l) e =
      ⊎_elim
      (λ h. rw h (without_every p l (tl p y l e)))
      (λ h. rw h (cons p y (without t Q k l) (hd p y l e) (without_every p l (tl p y l e))))
      (by_cases (names t Q k y))

  without_pairs : (R : Booking → Booking → Bool) (l : List Booking) → pairs R l ≡ true → pairs R (without t Q k l) ≡ true
  unfolding without pairs
  without_pairs R [] e = refl
  without_pairs R (y ∷ l) e =
      let o = and_true (every (R y) l) (pairs R l) e in
      ⊎_elim
      (λ h. rw h (without_pairs R l o.1))
      (λ h. rw h (both (every (R y) (without t Q k l)) (pairs R (without t Q k l)) (without_every (R y) l o.0) (without_pairs R l o.1)))
      (by_cases (names t Q k y))

  pub without_length : (l : List Booking) → length (without t Q k l) ≤ length l
  unfolding without
  without_length [] = omega arith
  without_length (y ∷ l) =
      let rest : length (without t Q k l) ≤ length l = without_length l in
      ⊎_elim (λ h. rw h (omega arith)) (λ h. rw h (omega arith)) (by_cases (names t Q k y))

  -- ---- in order, at most one is named: two would stand at the same place of the order
  named_key : (y : Booking) → names t Q k y ≡ true → key y ≡ t * 16 + first_leaf Q k
  unfolding names
  named_key y e =
      let a = and_true (eqb y.timeslot t) (eqb y.factor Q && eqb y.index k) e in
      let b = and_true (eqb y.factor Q) (eqb y.index k) a.1 in
      rw (eqb-true y.timeslot t a.0, eqb-true y.factor Q b.0, eqb-true y.index k b.1)

  none_after : (y : Booking) (l : List Booking) → names t Q k y ≡ true → every (fine y) l ≡ true → every other l ≡ true
  unfolding every
  none_after y [] h e = refl
  none_after y (z ∷ l) h e = cons other z l (⊎_elim never (λ f. ap not f) (by_cases (names t Q k z))) (none_after y l h (tl (fine y) z l e))
    where
      never : names t Q k z ≡ true → not (names t Q k z) ≡ true
      never g = absurd (omega (arith, named_key y h, named_key z g, fine_comes y z (hd (fine y) z l e)))

  -- so the one at its place goes, and no other
  pub without_removed : (l : List Booking) → pairs fine l ≡ true → place_named t Q k l < length l → remove_at (place_named t Q k l) l ≡ without t Q k l
  unfolding pairs place_named without
  without_removed [] o h = absurd (not-suc-le-zero h)
  without_removed (y ∷ l) o h =
      let e = and_true (every (fine y) l) (pairs fine l) o in
      ⊎_elim
      (λ g. rw g (sym (without_none l (none_after y l g e.0))))
      (λ f. rw f (rw suc-add (ap (λ (m : List Booking). y ∷ m) (without_removed l e.1 (le_of_suc-le-suc (rw f at h))))))
      (by_cases (names t Q k y))

  pub cancelled_length : (l : List Booking) → pairs fine l ≡ true → place_named t Q k l < length l → length (without t Q k l) + 1 ≡ length l
  cancelled_length l o h = rw (← without_removed l o h) (length_remove (place_named t Q k l) l h)

  -- put in again, it gives the plan as it was
  pub cancelled_back : (l : List Booking) (d : Booking) → pairs fine l ≡ true → place_named t Q k l < length l
      → insert (get_or l (place_named t Q k l) d) (without t Q k l) ≡ l
  unfolding pairs place_named without
  cancelled_back [] d o h = absurd (not-suc-le-zero h)
  cancelled_back (y ∷ l) d o h =
      let e = and_true (every (fine y) l) (pairs fine l) o in
      ⊎_elim
      (λ g. rw g (ap (insert y) (without_none l (none_after y l g e.0)) ∙ insert_first y l e.0))
      (λ f.
      let p : place_named t Q k l < length l = le_of_suc-le-suc (rw f at h) in
      rw f (insert_later (get_or l (place_named t Q k l) d) y (without t Q k l) (every_at (fine y) l (place_named t Q k l) d p e.0)
      ∙ ap (λ (m : List Booking). y ∷ m) (cancelled_back l d e.1 p)))
      (by_cases (names t Q k y))

-- ---- the seat without what is named
module _ (s : Seat) (t Q k : ℕ) (ok : seat_ok s ≡ true) where
  pub seat_without : s.live ≡ true → seat_ok (with_plan s (without t Q k (bookings s))) ≡ true
  seat_without live =
      let o = sound s ok in
      with_plan_ok s (without t Q k (bookings s)) (omega (arith, without_length t Q k (bookings s), length-take (held s) s.row)) live (open_good s ok live)
      (without_every t Q k (stands_in s) (bookings s) o.standing) (without_pairs t Q k fine (bookings s) o.ordered)

  -- where one is named, the plan without the one at its place is the plan without what is named
  pub removed_plan : every (λ y. not (names t Q k y)) (bookings s) ≡ false
      → with_plan s (remove_at (place_named t Q k (bookings s)) (bookings s)) ≡ with_plan s (without t Q k (bookings s))
  removed_plan there =
      let l = bookings s in
      let inside : place_named t Q k l < length l = leb-false (length l) (place_named t Q k l) (placed_or_none t Q k l ∙ there) in
      ap (with_plan s) (without_removed t Q k l (sound s ok).ordered inside)

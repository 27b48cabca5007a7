-- A booking that is taken is in the plan, nothing else changes, and the seat still meets its conditions; a closed and a newly opened seat meet them too.
-- Cited by the crate classbook. Assumes nothing.
use mathlib.Core.Path.{◌≡◌, refl, sym, ◌∙◌}
use mathlib.Core.Logic.{⊎_elim}
use mathlib.Core.Bool.{Bool, true, false, not, cond, or-true}
use mathlib.Core.List.{List, [], ◌∷◌}
use Prim.Native.Nat.{ℕ, ◌+◌, ◌≤◌, ◌<◌}
use native.Mathlib.Omega.{arith}
use lib.Dec.{ltb}
use lib.ListN.{length, get_or}
use borrow.Author.Tests.{ltb-true, ltb-false, lt-ltb, eq-eqb, not-true, not-false}
use Rattle.laws.specs.Lists.{every, pairs, remove_at}
use Rattle.laws.proofs.Bools.{true_false, and_true}
use Rattle.laws.proofs.Lists.{by_cases, both, hd, tl, cons, every_insert, placed}
use Rattle.laws.proofs.Matches.{matches_self}
use Rattle.laws.proofs.Rows.{count_le, out_again}
use Rattle.laws.proofs.Places.{length-insert, insert_at_lem}
use Rattle.refusals.specs.Refusals.{first_of}
use Rattle.conditions.specs.Conditions.{is_down}
use Rattle.tables.specs.Tables.{settings_refusals}
use Rattle.bookings.specs.declared.Booking.{Booking}
use Rattle.slots.specs.Slots.{same_slot, summary_of}
use Rattle.slots.proofs.Summary.{same_self}
use Rattle.seats.specs.declared.Seat.{Seat}
use Rattle.leaves.specs.Leaves.{leaves_of}
use Rattle.bookings.specs.Bookings.{leaf, overlaps, clash, key, comes, fine}
use Rattle.seats.specs.Conditions.{clashes_with}
use Rattle.seats.specs.Seats.{is_blank, is_bare, closed, held, bookings, good_settings, stands_in, seat_ok, rank, insert, with_plan, opened}
use Rattle.bookings.proofs.Formed.{Formed}
use Rattle.bookings.proofs.Clash.{clash_turn}
use Rattle.seats.proofs.Tested.{stands_formed}
use Rattle.seats.proofs.Sound.{sound}
use Rattle.plans.proofs.Plans.{open_good, with_plan_ok, plan_length}

-- ---- of two in form that do not clash, one comes before the other
same_clash : (x y : Booking) → Formed x → Formed y → key x ≡ key y → clash x y ≡ true
unfolding clash overlaps
same_clash x y fx fy e =
    let s : x.timeslot ≡ y.timeslot = omega arith in
    let a : leaf x < leaf y + leaves_of y.factor = omega arith in
    let b : leaf y < leaf x + leaves_of x.factor = omega arith in
    simp (eq-eqb x.timeslot y.timeslot s, lt-ltb _ _ a, lt-ltb _ _ b, or-true)

after : (x y : Booking) → (key x ≡ key y → ⊥) → comes y x ≡ false → comes x y ≡ true
unfolding comes
after x y apart f = let h : key x ≤ key y = ltb-false (key y) (key x) f in lt-ltb (key x) (key y) (omega arith)

beside_fine : (x y : Booking) → Formed x → Formed y → not (clash x y) ≡ true → cond (comes y x) (fine y x) (fine x y) ≡ true
unfolding fine
beside_fine x y fx fy n =
    ⊎_elim (λ t. rw t (rw (clash_turn y x) n)) (λ f. rw f (both (comes x y) (not (clash x y)) (after x y apart f) n)) (by_cases (comes y x))
  where
    apart : key x ≡ key y → ⊥
    apart e = true_false (sym (same_clash x y fx fy e) ∙ not-true (clash x y) n)

-- the order is transitive
forth : (x y z : Booking) → fine y z ≡ true → comes z x ≡ true → comes y x ≡ true
unfolding fine comes
forth x y z r c =
    let a : key y < key z = ltb-true (key y) (key z) (and_true (ltb (key y) (key z)) (not (clash y z)) r).0 in
    let b : key z < key x = ltb-true (key z) (key x) c in
    lt-ltb (key y) (key x) (omega arith)

-- ---- a list with x in its place
module _ (x : Booking) (l : List Booking) where
  rank_le : rank x l ≤ length l
  unfolding rank
  rank_le = count_le (λ y. comes y x) l

  -- x is in it, and without x it is the old one
  pub insert-length : length (insert x l) ≡ length l + 1
  unfolding insert
  insert-length = length-insert (rank x l) l x

  pub insert_there : (d : Booking) → get_or (insert x l) (rank x l) d ≡ x
  unfolding insert
  insert_there d = insert_at_lem (rank x l) l x d rank_le

  pub insert_only : remove_at (rank x l) (insert x l) ≡ l
  unfolding insert
  insert_only = out_again l (rank x l) x rank_le

  -- a test that each passes, x too
  insert_every : (p : Booking → Bool) → every p l ≡ true → p x ≡ true → every p (insert x l) ≡ true
  unfolding insert
  insert_every p e h = every_insert p (rank x l) x l e h

-- ---- a seat with one booking more
module _ (s : Seat) (x : Booking) where
  -- x stands right beside each that it does not clash with
  abbrev beside : Booking → Bool
  beside y = cond (comes y x) (fine y x) (fine x y)

  in_form : (y : Booking) → stands_in s y ≡ true → Formed y
  in_form y = stands_formed s.case s.k s.long s.short y

  all_beside : (l : List Booking) → stands_in s x ≡ true → every (stands_in s) l ≡ true → every (λ y. not (clash x y)) l ≡ true → every beside l ≡ true
  unfolding every
  all_beside [] f e n = refl
  all_beside (y ∷ l) f e n =
      cons beside y l (beside_fine x y (in_form x f) (in_form y (hd (stands_in s) y l e)) (hd (λ y. not (clash x y)) y l n))
      (all_beside l f (tl (stands_in s) y l e) (tl (λ y. not (clash x y)) y l n))

  -- so the plan with x meets its conditions, and the seat does
  insert_ordered : (l : List Booking) → stands_in s x ≡ true → every (stands_in s) l ≡ true → pairs fine l ≡ true → clashes_with l x ≡ false
      → pairs fine (insert x l) ≡ true
  unfolding clashes_with insert rank
  insert_ordered l f e order free = placed fine (λ y. comes y x) x (forth x) l order (all_beside l f e (not-false (every (λ y. not (clash x y)) l) free))

  pub seat_with_booking : seat_ok s ≡ true → s.live ≡ true → length s.row ≡ 40 → held s < 40 → stands_in s x ≡ true → clashes_with (bookings s) x ≡ false
      → seat_ok (with_plan s (insert x (bookings s))) ≡ true
  seat_with_booking ok live wide room f free =
      let o = sound s ok in
      with_plan_ok s (insert x (bookings s)) (omega (arith, insert-length x (bookings s), plan_length s wide)) live (open_good s ok live)
      (insert_every x (bookings s) (stands_in s) o.standing f) (insert_ordered (bookings s) f o.standing o.ordered free)

-- ---- a seat that is closed, and one that was just opened
pub closed_ok : seat_ok closed ≡ true
unfolding seat_ok closed is_bare every pairs is_blank is_down
closed_ok = matches_self same_slot same_self (summary_of [])

pub opened_ok : (cell case k long short : ℕ) → first_of (settings_refusals cell case k long short) ≡ 0
    → seat_ok (opened cell case k long short) ≡ true
unfolding with_plan good_settings every pairs
opened_ok cell case k long short e =
    with_plan_ok
    (opened cell case k long short) [] (omega arith) refl (rw e) refl refl

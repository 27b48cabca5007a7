-- Which refusals a call can meet: only 20 hangs on the common room, and with fewer than 10 neither 19 nor 20 is met. Cited by Alone and Demand3.
-- Assumes nothing.
use mathlib.Core.Path.{◌≡◌, refl, sym, ap, ◌∙◌}
use mathlib.Core.Bool.{Bool, true, false, not, ◌&&◌}
use mathlib.Core.List.{[], ◌∷◌, ◌++◌, append_assoc}
use Prim.Native.Nat.{ℕ, suc, ◌<◌}
use native.Mathlib.Omega.{arith}
use lib.Dec.{eqb}
use borrow.Author.Tests.{eq-eqb, ne_eqb, lt-leb}
use Rattle.laws.specs.Lists.{every}
use Rattle.laws.proofs.Bools.{true_false}
use Rattle.laws.proofs.Lists.{hd, tl}
use Rattle.refusals.specs.Refusals.{Refusals, first_of}
use Rattle.seats.specs.declared.Seat.{Seat}
use Rattle.tables.specs.Tables.{form_refusals, settings_refusals}
use Rattle.seats.specs.Seats.{held}
use Rattle.classbook.specs.declared.Book.{Book}
use Rattle.classbook.specs.Book.{seat_of}
use Rattle.classbook.specs.Conditions.{bad_book, seat_full, room_used_up}
use Rattle.classbook.specs.Calls.{as_booking, request_refusals}
use Rattle.demand.specs.Lesson.{Call, opens, books, cancels, closes, lists, glances, reply, number_of}
use Rattle.demand.proofs.Own.{book_table, table, number_own}

-- ---- a last row decides nothing but its own refusal
last_row : (t : Refusals) (m : ℕ) (full : Bool) → (first_of (t ++ (m, full) ∷ []) ≡ m → ⊥) → first_of (t ++ (m, full) ∷ []) ≡ first_of (t ++ (m, false) ∷ [])
unfolding first_of
last_row [] m true h = absurd (h refl)
last_row [] m false h = refl
last_row ((n, true) ∷ t) m full h = refl
last_row ((n, false) ∷ t) m full h = last_row t m full h

-- so of all refusals the common room decides 20 only
pub room_only_20 : (bad full : Bool) (s : Seat) (i : ℕ) (c : Call) → (first_of (table bad full s i c) ≡ 20 → ⊥)
    → first_of (table bad full s i c) ≡ first_of (table bad false s i c)
room_only_20 bad full s i (opens cell case k long short) h = refl
room_only_20 bad full s i (books x) h =
    split full ∙ last_row (request_refusals x ++ book_table bad s i (as_booking x)) 20 full (λ e. h (split full ∙ e)) ∙ sym (split false)
  where
    split : (f : Bool) → first_of (table bad f s i (books x)) ≡ first_of (request_refusals x ++ book_table bad s i (as_booking x) ++ (20, f) ∷ [])
    split f = ap (λ (r : Refusals). first_of r) (sym (append_assoc (request_refusals x) (book_table bad s i (as_booking x)) ((20, f) ∷ [])))
room_only_20 bad full s i (cancels timeslot factor index) h = refl
room_only_20 bad full s i closes h = refl
room_only_20 bad full s i (lists lent) h = refl
room_only_20 bad full s i (glances timeslot) h = refl

-- ---- a table in which no row of the number m holds does not refuse with it
abbrev lacks : ℕ → Refusals → Bool
lacks m t = every (λ (row : ℕ × Bool). not (eqb row.0 m && row.1)) t

lacks_first : (m : ℕ) (t : Refusals) → lacks (suc m) t ≡ true → first_of t ≡ suc m → ⊥
unfolding first_of every
lacks_first m [] l e = omega (arith, e)
lacks_first m ((n, false) ∷ t) l e = lacks_first m t (tl (λ (row : ℕ × Bool). not (eqb row.0 (suc m) && row.1)) (n, false) t l) e
lacks_first m ((n, true) ∷ t) l e =
    true_false (sym (hd (λ (row : ℕ × Bool). not (eqb row.0 (suc m) && row.1)) (n, true) t l) ∙ rw (eq-eqb n (suc m) e))

-- with fewer than 10 neither 19 nor 20 holds
lacks_19 : (bad full : Bool) (s : Seat) (i : ℕ) (c : Call) → seat_full s ≡ false → lacks 19 (table bad full s i c) ≡ true
unfolding every settings_refusals request_refusals form_refusals
lacks_19 bad full s i (opens cell case k long short) h = refl
lacks_19 bad full s i (books x) h = rw h refl
lacks_19 bad full s i (cancels timeslot factor index) h = refl
lacks_19 bad full s i closes h = refl
lacks_19 bad full s i (lists lent) h = refl
lacks_19 bad full s i (glances timeslot) h = refl

lacks_20 : (bad : Bool) (s : Seat) (i : ℕ) (c : Call) → lacks 20 (table bad false s i c) ≡ true
unfolding every settings_refusals request_refusals form_refusals
lacks_20 bad s i (opens cell case k long short) = refl
lacks_20 bad s i (books x) = refl
lacks_20 bad s i (cancels timeslot factor index) = refl
lacks_20 bad s i closes = refl
lacks_20 bad s i (lists lent) = refl
lacks_20 bad s i (glances timeslot) = refl

-- "whoever holds fewer than 10 is never refused 19 or 20", in any book at all
pub tens_safe : (b : Book) (i : ℕ) (c : Call) → held (seat_of b i) < 10 → (number_of (reply b i c) ≡ 19 → ⊥) × (number_of (reply b i c) ≡ 20 → ⊥)
unfolding seat_full room_used_up
tens_safe b i c few = (not_19, not_20)
  where
    not_forty : held (seat_of b i) ≡ 40 → ⊥
    not_forty z = omega (arith, few, z)

    not_full : seat_full (seat_of b i) ≡ false
    not_full = ne_eqb (held (seat_of b i)) 40 not_forty

    room : room_used_up b (seat_of b i) ≡ false
    room = simp (lt-leb 10 (held (seat_of b i)) few)

    not_19 : number_of (reply b i c) ≡ 19 → ⊥
    not_19 e =
        let full = room_used_up b (seat_of b i) in
        lacks_first 18 (table (bad_book b) full (seat_of b i) i c) (lacks_19 (bad_book b) full (seat_of b i) i c not_full) (sym (number_own b i c) ∙ e)

    not_20 : number_of (reply b i c) ≡ 20 → ⊥
    not_20 e =
        lacks_first 19 (table (bad_book b) false (seat_of b i) i c) (lacks_20 (bad_book b) (seat_of b i) i c)
        (ap (λ (full : Bool). first_of (table (bad_book b) full (seat_of b i) i c)) (sym room) ∙ sym (number_own b i c) ∙ e)

-- Every book that a lesson comes to meets its conditions and has its sizes; a turn touches no seat but the caller's. Cited by Alone and Demand3.
-- Assumes nothing.
use mathlib.Core.Path.{◌≡◌, refl, ap, ◌∙◌}
use mathlib.Core.Logic.{⊎_elim}
use mathlib.Core.Bool.{true}
use mathlib.Core.List.{List, [], ◌∷◌}
use Prim.Native.Nat.{ℕ}
use native.Mathlib.Omega.{arith}
use lib.ListN.{length, set, get_or, length-set}
use lib.Seq.{get_or-set_other}
use Rattle.refusals.specs.Refusals.{after}
use Rattle.seats.specs.declared.Seat.{Seat}
use Rattle.seats.specs.Seats.{closed, held, bookings, insert, without}
use Rattle.seats.proofs.Sound.{sound}
use Rattle.plans.proofs.Plans.{plan_length, with_plan_row}
use Rattle.plans.proofs.Kept.{insert-length}
use Rattle.plans.proofs.Cancelled.{without_length}
use Rattle.classbook.specs.declared.Book.{Book}
use Rattle.classbook.specs.Book.{empty_book, seat_of, with_seat, plan_of, book_ok}
use Rattle.classbook.specs.Calls.{open_seat, as_booking, book_answer}
use Rattle.classbook.proofs.Passed.{named_seat_good, book_passed}
use Rattle.classbook.proofs.Valid.{Sized, empty_ok, open_kept, book_kept, cancel_kept, close_kept}
use Rattle.demand.specs.Lesson.{Call, opens, books, cancels, closes, lists, glances, Turn, reply, number_of, next, run_through}
use Rattle.demand.specs.Demand.{holds}
use Rattle.demand.proofs.Seats.{replicate_at, set_shows}
use Rattle.demand.proofs.Own.{after_either, made, next_own}

-- ---- a turn touches no seat but the caller's
exchange_apart : (n : ℕ) (b : Book) (i : ℕ) (s : Seat) (j : ℕ) → (j ≡ i → ⊥) → seat_of (after n b (with_seat b i s)) j ≡ seat_of b j
unfolding seat_of with_seat
exchange_apart n b i s j apart =
    after_either (λ (c : Book). seat_of c j ≡ seat_of b j) n b (with_seat b i s) (λ z. get_or-set_other b.seats i j s closed apart) refl

pub next_apart : (b : Book) (i : ℕ) (c : Call) (j : ℕ) → (j ≡ i → ⊥) → seat_of (next b i c) j ≡ seat_of b j
next_apart b i c j apart = ap (λ (d : Book). seat_of d j) (next_own b i c) ∙ exchange_apart (number_of (reply b i c)) b i (made (seat_of b i) c) j apart

-- ---- a book as lessons have it: its conditions, and the sizes of its form
pub record Good (b : Book) : Type 0 where
  pub ok : book_ok b ≡ true
  pub sixteen : length b.seats ≡ 16
  pub wide : (i : ℕ) → length (seat_of b i).row ≡ 40

pub empty_good : Good empty_book
unfolding empty_book seat_of closed
empty_good = record { ok = empty_ok; sixteen = refl; wide = λ i. ap (λ (s : Seat). length s.row) (replicate_at 16 i closed) }

-- the sizes stay where the seat that is put in has forty places
exchange_sixteen : (n : ℕ) (b : Book) (i : ℕ) (s : Seat) → length b.seats ≡ 16 → length (after n b (with_seat b i s)).seats ≡ 16
unfolding with_seat
exchange_sixteen n b i s h = after_either (λ (c : Book). length c.seats ≡ 16) n b (with_seat b i s) (λ z. length-set b.seats i s ∙ h) h

exchange_wide : (n : ℕ) (b : Book) (i : ℕ) (s : Seat) → ((j : ℕ) → length (seat_of b j).row ≡ 40) → (n ≡ 0 → length s.row ≡ 40)
    → (j : ℕ) → length (seat_of (after n b (with_seat b i s)) j).row ≡ 40
unfolding seat_of with_seat
exchange_wide n b i s h new j = after_either (λ (c : Book). length (seat_of c j).row ≡ 40) n b (with_seat b i s) (λ z. shown (new z)) (h j)
  where
    shown : length s.row ≡ 40 → length (get_or (set b.seats i s) j closed).row ≡ 40
    shown w =
        ⊎_elim
        (λ e. ap (λ (t : Seat). length t.row) e ∙ w)
        (λ e. ap (λ (t : Seat). length t.row) e ∙ h j)
        (set_shows b.seats i j s closed)

-- and that it has
made_wide : (b : Book) (i : ℕ) (c : Call) → Good b → number_of (reply b i c) ≡ 0 → length (made (seat_of b i) c).row ≡ 40
unfolding reply number_of open_seat closed book_answer
made_wide b i (opens cell case k long short) g z = refl
made_wide b i (books x) g z =
    let s = seat_of b i in
    let few = (book_passed b i x z).booking.few in
    with_plan_row s (insert (as_booking x) (bookings s)) (omega (arith, insert-length (as_booking x) (bookings s), plan_length s (g.wide i), few))
made_wide b i (cancels timeslot factor index) g z =
    let s = seat_of b i in
    with_plan_row s (without timeslot factor index (bookings s)) (omega (arith, without_length timeslot factor index (bookings s), plan_length s (g.wide i)))
made_wide b i closes g z = refl
made_wide b i (lists lent) g z = g.wide i
made_wide b i (glances timeslot) g z = g.wide i

next_ok : (b : Book) (i : ℕ) (c : Call) → Good b → book_ok (next b i c) ≡ true
unfolding next
next_ok b i c g = go c
  where
    sized : Sized b
    sized = record { seats = g.sixteen; rows = λ j low. g.wide j }

    go : (c : Call) → book_ok (next b i c) ≡ true
    go (opens cell case k long short) = open_kept b sized g.ok i cell case k long short
    go (books x) = book_kept b sized g.ok i x
    go (cancels timeslot factor index) = cancel_kept b sized g.ok i timeslot factor index
    go closes = close_kept b sized g.ok i
    go (lists lent) = g.ok
    go (glances timeslot) = g.ok

pub next_good : (b : Book) (i : ℕ) (c : Call) → Good b → Good (next b i c)
next_good b i c g =
    let n = number_of (reply b i c) in
    let s = made (seat_of b i) c in
    record {
      ok = next_ok b i c g;
      sixteen = ap (λ (d : Book). length d.seats) (next_own b i c) ∙ exchange_sixteen n b i s g.sixteen;
      wide = λ j. ap (λ (d : Book). length (seat_of d j).row) (next_own b i c) ∙ exchange_wide n b i s g.wide (made_wide b i c g) j;
    }

pub run_good : (ts : List Turn) (b : Book) → Good b → Good (run_through b ts)
unfolding run_through
run_good [] b g = g
run_good (t ∷ ts) b g = run_good ts (next b t.seat t.call) (next_good b t.seat t.call g)

-- ---- what a seat of such a book holds
module _ (b : Book) (g : Good b) (i : ℕ) where
  pub holds_held : holds b i ≡ held (seat_of b i)
  unfolding plan_of
  holds_held = plan_length (seat_of b i) (g.wide i)

  pub holds_count : (seat_of b i).count ≡ holds b i
  holds_count = omega (arith, holds_held, (sound (seat_of b i) (named_seat_good b i g.ok)).few)

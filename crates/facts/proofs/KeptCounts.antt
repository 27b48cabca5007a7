-- A seat keeps its counts until it is closed, whatever all learners call. Cited by OldDefault; it is
-- for the reader. Assumes nothing.
use mathlib.Core.Path.{◌≡◌, refl, sym, ◌∙◌}
use mathlib.Core.Bool.{true, false, not}
use mathlib.Core.List.{List, [], ◌∷◌}
use mathlib.Core.Logic.{⊎_elim}
use Prim.Native.Nat.{ℕ}
use lib.Dec.{eqb}
use borrow.Author.Tests.{eqb-true, eqb-false, not-true}
use Rattle.laws.specs.Lists.{every}
use Rattle.laws.proofs.Bools.{true_false}
use Rattle.laws.proofs.Cases.{by_cases}
use Rattle.laws.proofs.Lists.{hd, tl}
use Rattle.seats.specs.declared.Seat.{Seat}
use Rattle.seats.specs.Seats.{closed, with_plan}
use Rattle.classbook.specs.declared.Book.{Book}
use Rattle.classbook.specs.Book.{seat_of, with_seat}
use Rattle.classbook.specs.Calls.{open_answer}
use Rattle.classbook.proofs.Passed.{open_passed}
use Rattle.demand.specs.Lesson.{Call, opens, books, cancels, closes, lists, glances}
use Rattle.demand.specs.Lesson.{Turn, reply, number_of, next, run_through}
use Rattle.demand.proofs.Seats.{set_shows}
use Rattle.demand.proofs.Own.{after_either, made, next_own}
use Rattle.demand.proofs.Books.{next_apart}
use Rattle.facts.specs.KeptCounts.{is_close, closes_it, SameCounts}

unchanged : (s : Seat) → s.live ≡ true → SameCounts s s
unchanged s live = record { live = live; long = refl; short = refl }

-- the seat that a call makes which is not refused
made_counts : (b : Book) (i : ℕ) (c : Call) → (seat_of b i).live ≡ true → is_close c ≡ false
    → number_of (reply b i c) ≡ 0 → SameCounts (seat_of b i) (made (seat_of b i) c)
unfolding reply number_of is_close open_answer with_plan
made_counts b i (opens cell case k long short) live open-still z =
    true_false (sym live ∙ (open_passed b i cell case k long short z).shut)
made_counts b i (books x) live open-still z = record { live = live; long = refl; short = refl }
made_counts b i (cancels timeslot factor index) live open-still z = record { live = live; long = refl; short = refl }
made_counts b i closes live open-still z = true_false open-still
made_counts b i (lists lent) live open-still z = unchanged (seat_of b i) live
made_counts b i (glances timeslot) live open-still z = unchanged (seat_of b i) live

own_counts : (b : Book) (i : ℕ) (c : Call) → (seat_of b i).live ≡ true → is_close c ≡ false
    → SameCounts (seat_of b i) (seat_of (next b i c) i)
unfolding seat_of with_seat
own_counts b i c live open-still =
    let n = number_of (reply b i c) in
    let s = made (seat_of b i) c in
    let same = unchanged (seat_of b i) live in
    rw (next_own b i c)
    (after_either (λ (d : Book). SameCounts (seat_of b i) (seat_of d i)) n b (with_seat b i s)
    (λ z.
    ⊎_elim
    (λ e. rw e (made_counts b i c live open-still z))
    (λ e. rw e same)
    (set_shows b.seats i i s closed))
    same)

-- one turn, of whomever
pub turn_counts : (b : Book) (i : ℕ) (t : Turn) → (seat_of b i).live ≡ true → closes_it i t ≡ false
    → SameCounts (seat_of b i) (seat_of (next b t.seat t.call) i)
unfolding closes_it
turn_counts b i t live open-still = ⊎_elim mine other (by_cases (eqb t.seat i))
  where
    mine : eqb t.seat i ≡ true → SameCounts (seat_of b i) (seat_of (next b t.seat t.call) i)
    mine e = rw (eqb-true t.seat i e) (own_counts b i t.call live (rw e at open-still))

    other : eqb t.seat i ≡ false → SameCounts (seat_of b i) (seat_of (next b t.seat t.call) i)
    other f = rw (next_apart b t.seat t.call i (λ e. eqb-false t.seat i f (sym e))) (unchanged (seat_of b i) live)

-- any turns of all learners, as long as none of them closes the seat
pub counts_kept : (ts : List Turn) (b : Book) (i : ℕ) → (seat_of b i).live ≡ true
    → every (λ t. not (closes_it i t)) ts ≡ true → SameCounts (seat_of b i) (seat_of (run_through b ts) i)
unfolding run_through
counts_kept [] b i live open-still = unchanged (seat_of b i) live
counts_kept (t ∷ ts) b i live open-still =
    let one = turn_counts b i t live (not-true _ (hd (λ t. not (closes_it i t)) t ts open-still)) in
    let rest = counts_kept ts (next b t.seat t.call) i one.live (tl (λ t. not (closes_it i t)) t ts open-still) in
    record { live = rest.live; long = rest.long ∙ one.long; short = rest.short ∙ one.short }

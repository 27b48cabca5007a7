-- Document 02, C-17: "Seats opened before keep 16 and 6." A lesson of before gets the answers that it
-- got, once its openings give 16 and 6 outright; the books that it left meet their conditions; an
-- opening differs only where a count is 0; and a seat that was opened then keeps 16 and 6 until it is
-- closed. No function's proof cites it: it is for the reader. Assumes nothing.
use mathlib.Core.Path.{◌≡◌, refl, sym, ap, ◌∙◌}
use mathlib.Core.Bool.{true, false, cond, not}
use mathlib.Core.List.{List, [], ◌∷◌}
use mathlib.Core.Logic.{⊎_elim}
use Prim.Native.Nat.{ℕ}
use lib.Dec.{eqb}
use Rattle.laws.specs.Lists.{every}
use Rattle.laws.proofs.Bools.{or_false}
use Rattle.laws.proofs.Cases.{by_cases}
use Rattle.seats.specs.declared.Seat.{Seat}
use Rattle.classbook.specs.declared.Book.{Book}
use Rattle.classbook.specs.Book.{empty_book, seat_of}
use Rattle.classbook.specs.Calls.{BookAnswer, long_count, short_count}
use Rattle.classbook.specs.Calls.{open_refusals, open_seat, open_answer}
use Rattle.classbook.proofs.Meaning.{opened_seat}
use Rattle.classbook.proofs.Valid.{Sized}
use Rattle.demand.specs.Lesson.{Call, opens, books, cancels, closes, lists, glances}
use Rattle.demand.specs.Lesson.{Turn, number, reply, next, run_through, log}
use Rattle.demand.proofs.Books.{Good, empty_good, run_good}
use Rattle.facts.specs.KeptCounts.{closes_it}
use Rattle.facts.specs.OldDefault.{old_long, old_short, old_open_answer, old_reply, old_next, old_replies, old_run}
use Rattle.facts.specs.OldDefault.{outright, all_outright, leaves_count, replies}
use Rattle.facts.proofs.KeptCounts.{counts_kept}

-- ---- "must now give 16 and 6 outright .. and show that each still gets the answers it got"

-- where 0 stood for a count, what it stood for is stored as it is, whatever 0 stands for now
stored : (now was n : ℕ) → eqb was 0 ≡ false → (let m = cond (eqb n 0) was n in cond (eqb m 0) now m ≡ m)
stored now was n e =
    ⊎_elim (λ (t : eqb n 0 ≡ true). rw (t, e) refl) (λ (f : eqb n 0 ≡ false). rw (f, f) refl) (by_cases (eqb n 0))

long_kept : (long : ℕ) → long_count (old_long long) ≡ old_long long
unfolding long_count old_long
long_kept long = stored 8 16 long refl

short_kept : (short : ℕ) → short_count (old_short short) ≡ old_short short
unfolding short_count old_short
short_kept short = stored 3 6 short refl

-- opening a seat with 16 and 6 outright is what opening it with 0 was, on any book
pub opened_outright : (b : Book) (seat cell case k long short : ℕ)
    → open_answer b seat cell case k (old_long long) (old_short short) ≡ old_open_answer b seat cell case k long short
unfolding open_answer open_refusals open_seat old_open_answer
opened_outright b seat cell case k long short = rw (long_kept long, short_kept short) refl

-- so each call is answered as it was, and leaves the book that it left
pub call_outright : (b : Book) (seat : ℕ) (c : Call)
    → (reply b seat (outright c) ≡ old_reply b seat c) × (next b seat (outright c) ≡ old_next b seat c)
unfolding reply next outright old_reply old_next
call_outright b seat (opens cell case k long short) =
    let e = opened_outright b seat cell case k long short in
    (ap (λ (a : BookAnswer). number a.refusal) e, ap (λ (a : BookAnswer). a.book) e)
call_outright b seat (books x) = (refl, refl)
call_outright b seat (cancels timeslot factor index) = (refl, refl)
call_outright b seat closes = (refl, refl)
call_outright b seat (lists lent) = (refl, refl)
call_outright b seat (glances timeslot) = (refl, refl)

-- and each lesson, on any book
pub lesson_outright : (ts : List Turn) (b : Book)
    → (replies b (all_outright ts) ≡ old_replies b ts) × (run_through b (all_outright ts) ≡ old_run b ts)
unfolding replies log run_through all_outright old_replies old_run
lesson_outright [] b = (refl, refl)
lesson_outright (t ∷ ts) b =
    let e = call_outright b t.seat t.call in
    let rest = lesson_outright ts (old_next b t.seat t.call) in (
      rw (e.0, e.1, rest.0) refl,
      ap (λ (c : Book). run_through c (all_outright ts)) e.1 ∙ rest.1,
    )

-- ---- "Seats opened before keep 16 and 6"

-- every book that a lesson of before left meets its conditions
pub old_book_good : (ts : List Turn) → Good (old_run empty_book ts)
old_book_good ts = rw (sym (lesson_outright ts empty_book).1) (run_good (all_outright ts) empty_book empty_good)

-- and any book is answered for as before, wherever no count is left to the default: an opening differs
-- only where a count is 0, and the other calls have none to read
pub answers_as_before : (b : Book) (seat : ℕ) (c : Call) → leaves_count c ≡ false
    → (reply b seat c ≡ old_reply b seat c) × (next b seat c ≡ old_next b seat c)
unfolding leaves_count outright old_long old_short
answers_as_before b seat (opens cell case k long short) given =
    let e = or_false (eqb long 0) (eqb short 0) given in
    rw (e.0, e.1) at (call_outright b seat (opens cell case k long short))
answers_as_before b seat (books x) given = call_outright b seat (books x)
answers_as_before b seat (cancels timeslot factor index) given = call_outright b seat (cancels timeslot factor index)
answers_as_before b seat closes given = call_outright b seat closes
answers_as_before b seat (lists lent) given = call_outright b seat (lists lent)
answers_as_before b seat (glances timeslot) given = call_outright b seat (glances timeslot)

-- and a seat that was opened has the counts of then, 16 and 6 for 0, whatever is called until it is
-- closed
pub old_seat_keeps : (b : Book) → Good b → (seat cell case k long short : ℕ)
    → (old_open_answer b seat cell case k long short).refusal ≡ 0
    → (ts : List Turn) → every (λ t. not (closes_it seat t)) ts ≡ true
    → ((seat_of (run_through (old_open_answer b seat cell case k long short).book ts) seat).long ≡ old_long long)
    × ((seat_of (run_through (old_open_answer b seat cell case k long short).book ts) seat).short ≡ old_short short)
unfolding open_seat
old_seat_keeps b g seat cell case k long short z ts open-still =
    let e = opened_outright b seat cell case k long short in
    let sized : Sized b = record { seats = g.sixteen; rows = λ j low. g.wide j } in
    let was = ap (λ (a : BookAnswer). seat_of a.book seat) (sym e)
    ∙ opened_seat b sized seat cell case k (old_long long) (old_short short) (ap (λ (a : BookAnswer). a.refusal) e ∙ z) in
    let kept = counts_kept ts (old_open_answer b seat cell case k long short).book seat (ap (λ (s : Seat). s.live) was) open-still in (
      kept.long ∙ ap (λ (s : Seat). s.long) was ∙ long_kept long,
      kept.short ∙ ap (λ (s : Seat). s.short) was ∙ short_kept short,
    )

-- From the code to demand 3: what each call on the book promises is what the lesson says of it.
-- `Post` and `clauses` are the promises that rattle reads off the source of classbook, listing and
-- summaries; `b.now` is the lent book as a call gets it, and `s.0.now` as the call leaves it.
-- `reply` and `next` are the lesson's. Cited by docs/. Assumes nothing.
use mathlib.Core.Path.{◌≡◌, refl, sym, ap, ◌∙◌}
use mathlib.Core.List.{List, [], ◌∷◌}
use Prim.Native.Nat.{ℕ, ◌≤◌}
use lib.ListN.{length}
use borrow.Author.Tests.{le-ltb}
use seplogic.Ra.Ura.{Ura}
use base.Logic.{SProp, ent}
use prog.Memory.{Memory}
use prog.Routine.{Routine}
use types.Logic.{Logic}
use contract.Lifetimes.{Lfts}
use contract.Monad.{Fun, fact, fact_i, fact_use}
use denote.Bor.{Bor}
use denote.MutBor.{MutBor}
use Rattle.std.specs.Prelude.{Result, Ok, Err}
use Rattle.refusals.specs.declared.Refusal.{Refusal}
use Rattle.refusals.specs.Refusals.{◌leaving◌, first_of, answer, number_of, refusal_in, said}
use Rattle.refusals.proofs.First.{answer_refused}
use Rattle.refusals.proofs.Numbers.{number_not_0}
use Rattle.bookings.specs.declared.Booking.{Booking}
use Rattle.classbook.specs.declared.Book.{Book}
use Rattle.classbook.specs.declared.Request.{Request}
use Rattle.classbook.specs.declared.List as by-value
use Rattle.classbook.specs.Calls.{BookAnswer, said_book, said_list, list_answer}
use Rattle.classbook.proofs.empty_book.Reads as empty-book
use Rattle.classbook.proofs.open_seat.Reads as open-seat
use Rattle.classbook.proofs.book_code.Reads as book-code
use Rattle.classbook.proofs.cancel_code.Reads as cancel-code
use Rattle.classbook.proofs.close_seat.Reads as close-seat
use Rattle.classbook.proofs.list_seat.Reads as list-seat
use Rattle.listing.specs.Inside.{selection_of}
use Rattle.listing.specs.Listing.{list_outcome}
use Rattle.listing.proofs.Answered.{refused_list, given_list}
use Rattle.listing.specs.contracts.list as list
use Rattle.summaries.specs.declared.Glance.{Glance}
use Rattle.summaries.proofs.Said.{said_whole}
use Rattle.summaries.proofs.summary.Reads as summary
use Rattle.demand.specs.Lesson.{Call, opens, books, cancels, closes, lists, glances}
use Rattle.demand.specs.Lesson.{Reply, number, listed, summed, reply, next, run_through, Line, log, turns}
use Rattle.demand.specs.Course.{Says, in_records, Called, Course, lines, last_book}
use Rattle.demand.specs.Demand.{book_after}

-- the book that the program makes is the one that a lesson begins with
pub empty_promised : (r : Book) (κs a s : _) → empty-book.Post κs a r s → r ≡ book_after []
unfolding run_through
empty_promised r κs a s p = p

-- ---- the calls that the book is lent to: r is whatever result, and s.0.now whatever book left,
-- meets the promise
module _ (b : MutBor Book) (seat : ℕ) (r : Result Unit Refusal) where
  told : (c : Call) (kept : Book) (a : BookAnswer) → said_book r kept ≡ a
      → reply b.now seat c ≡ number a.refusal → next b.now seat c ≡ a.book
      → Says b.now seat c (number (refusal_in r)) kept
  told c kept a p replies leaves =
      record {
        replies = replies ∙ ap (λ (x : BookAnswer). number x.refusal) (sym p);
        leaves = leaves ∙ ap (λ (x : BookAnswer). x.book) (sym p);
      }

  pub open_promised : (cell case k long short : ℕ) (κs s : _)
      → open-seat.Post κs (b, (seat, (cell, (case, (k, (long, (short, tt))))))) r s
      → Says b.now seat (opens cell case k long short) (number (refusal_in r)) s.0.now
  unfolding reply next
  open_promised cell case k long short κs s p = told (opens cell case k long short) _ _ p refl refl

  pub book_promised : (x : Request) (κs s : _) → book-code.Post κs (b, (seat, (x, tt))) r s
      → Says b.now seat (books x) (number (refusal_in r)) s.0.now
  unfolding reply next
  book_promised x κs s p = told (books x) _ _ p refl refl

  pub cancel_promised : (timeslot factor index : ℕ) (κs s : _)
      → cancel-code.Post κs (b, (seat, (timeslot, (factor, (index, tt))))) r s
      → Says b.now seat (cancels timeslot factor index) (number (refusal_in r)) s.0.now
  unfolding reply next
  cancel_promised timeslot factor index κs s p = told (cancels timeslot factor index) _ _ p refl refl

  pub close_promised : (κs s : _) → close-seat.Post κs (b, (seat, tt)) r s
      → Says b.now seat closes (number (refusal_in r)) s.0.now
  unfolding reply next
  close_promised κs s p = told closes _ _ p refl refl

-- ---- the list into lent records. Its promise is an assertion of the logic: where that is had, the
-- lesson says the reply and the records afterwards. The book is lent to be read, so it stays
listed_told : (b : Book) (seat : ℕ) (lent : List Booking) (r : Result ℕ Refusal) (kept : List Booking)
    → (said r leaving kept) ≡ list_outcome b seat lent
    → Says b seat (lists lent) (listed (said r leaving kept)) b
unfolding reply next
listed_told b seat lent r kept h = record { replies = ap listed (sym h); leaves = refl }

module _ {M : Type 1} {𝓤 : Ura M} (𝓛 : Logic 𝓤) (mem : Memory → SProp 𝓤)
    (run : Routine → Fun 𝓤) (κs : Lfts 2) (b : Bor Book) (seat : ℕ) (out : MutBor (List Booking)) where
  pub list_promised : (P : SProp 𝓤) (r : Result ℕ Refusal) (s : _)
      → ent 𝓤 P ((list.clauses 𝓛 mem run κs (b, (seat, (out, tt)))).ensures tt r s)
      → let got = listed (said r leaving s.1.1.0.now) in
      ent 𝓤 P (fact 𝓤 (Says b.now seat (lists out.now) got b.now))
  list_promised P r s p =
      let lent = out.now in
      let kept = s.1.1.0.now in
      fact_use 𝓤 ((said r leaving kept) ≡ list_outcome b.now seat lent) p (λ h.
      fact_i 𝓤 (Says b.now seat (lists lent) (listed (said r leaving kept)) b.now) P
      (listed_told b.now seat lent r kept h))

-- ---- the summary: whatever reply meets its promise is the lesson's, and the book stays
pub summary_promised : (b : Bor Book) (seat timeslot : ℕ) (r : Result Glance Refusal) (κs s : _) → summary.Post κs (b, (seat, (timeslot, tt))) r s
    → Says b.now seat (glances timeslot) (summed (said r)) b.now
unfolding reply next
summary_promised b seat timeslot r κs s p = record { replies = ap summed (sym p ∙ said_whole r); leaves = refl }

-- ---- the list by value: written into records, of which there are enough, it is the lesson's list

-- with enough of them it is what the list into records selects
selected : (b : Book) (seat size : ℕ) → 40 ≤ size → list_answer b seat ≡ selection_of b seat size
unfolding list_answer selection_of first_of
selected b seat size enough = rw (le-ltb size 40 enough) refl

written : (b : Book) (seat : ℕ) (lent : List Booking) (r : Result by-value.List Refusal) → 40 ≤ length lent → length (said_list r).row ≡ 40
    → said_list r ≡ list_answer b seat → in_records (said_list r) lent ≡ listed (list_outcome b seat lent)
unfolding in_records answer
written b seat lent (Ok l) enough wide p =
    ap listed (given_list b seat lent l (p ∙ selected b seat (length lent) enough) wide _ refl)
written b seat lent (Err e) enough wide p =
    ap (λ a. listed (a leaving lent)) (answer_refused (number_of e) 0 (number_not_0 e))
    ∙ ap listed (refused_list b seat lent (Err e) e refl (p ∙ selected b seat (length lent) enough))

pub list_seat_promised : (b : Bor Book) (seat : ℕ) (lent : List Booking) (r : Result by-value.List Refusal) (κs s : _)
    → 40 ≤ length lent → length (said_list r).row ≡ 40 → list-seat.Post κs (b, (seat, tt)) r s
    → Says b.now seat (lists lent) (in_records (said_list r) lent) b.now
unfolding reply next
list_seat_promised b seat lent r κs s enough wide p =
    record {
      replies = sym (written b.now seat lent r enough wide p);
      leaves = refl;
    }

-- ---- so whoever makes calls one after the other, each on the book that the one before it left,
-- has the lesson's log and the lesson's book
pub course_log : (cs : List Called) (b : Book) → Course b cs → log b (turns (lines cs)) ≡ lines cs
unfolding Course log turns lines
course_log [] b h = refl
course_log (c ∷ cs) b (h, k) =
    let t = c.line.turn in
    let after : Book = next b t.seat t.call in
    let later : Book → List Line = λ d. log d (turns (lines cs)) in
    ap (λ (r : Reply). record { turn = t; reply = r } ∷ later after) h.replies
    ∙ ap (λ (d : Book). c.line ∷ later d) h.leaves
    ∙ ap (λ (ls : List Line). c.line ∷ ls) (course_log cs c.kept k)

pub course_book : (cs : List Called) (b : Book) → Course b cs
    → run_through b (turns (lines cs)) ≡ last_book b cs
unfolding Course run_through turns lines last_book
course_book [] b h = refl
course_book (c ∷ cs) b (h, k) =
    ap (λ (d : Book). run_through d (turns (lines cs))) h.leaves ∙ course_book cs c.kept k

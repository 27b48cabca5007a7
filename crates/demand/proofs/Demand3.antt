-- Demand 3: the theorem, for every finite sequence of calls by all learners, in any order, from the empty book. What it says stands in specs/Demand.antt.
-- Cited by docs/. Assumes nothing.
use mathlib.Core.Path.{◌≡◌, sym, ap, ◌∙◌}
use mathlib.Core.Bool.{Bool, false, not}
use mathlib.Core.List.{List, [], ◌∷◌}
use Prim.Native.Nat.{ℕ, ◌≤◌}
use native.Mathlib.Omega.{arith}
use Rattle.laws.specs.Lists.{total}
use Rattle.refusals.specs.Refusals.{first_of}
use Rattle.seats.specs.declared.Seat.{Seat}
use Rattle.seats.specs.Seats.{held}
use Rattle.classbook.specs.declared.Book.{Book}
use Rattle.classbook.specs.Book.{empty_book, seat_of, plan_of, common}
use Rattle.classbook.specs.Conditions.{bad_seat, not_open}
use Rattle.classbook.specs.Calls.{ListAnswer, seat_refusals, list_with, list_answer}
use Rattle.classbook.proofs.Valid.{room_high}
use Rattle.demand.specs.Lesson.{Turn, turns}
use Rattle.demand.specs.Demand.{book_after, left, AtMostForty, AtMostEighty, TensAreSafe, AsIfAlone, Demand3}
use Rattle.demand.proofs.Seats.{total_beyond}
use Rattle.demand.proofs.Books.{Good, empty_good, run_good, holds_held, holds_count}
use Rattle.demand.proofs.Refused.{tens_safe}
use Rattle.demand.proofs.Alone.{not_bad, alone_from_empty}

-- every book that a lesson comes to is good
pub lesson_good : (ts : List Turn) → Good (book_after ts)
lesson_good ts = run_good ts empty_book empty_good

-- the list by value of a good book depends on the seat alone
abbrev list_of : ℕ → Bool → Seat → ListAnswer
list_of i bad s = list_with (first_of ((12, bad) ∷ (13, bad_seat i) ∷ (14, not s.live) ∷ [])) s

list_own : (b : Book) → Good b → (i : ℕ) → list_answer b i ≡ list_of i false (seat_of b i)
unfolding list_answer seat_refusals not_open
list_own b g i = ap (λ (bad : Bool). list_of i bad (seat_of b i)) (not_bad b g)

module _ (ts : List Turn) where
  at_most_forty : AtMostForty ts
  unfolding AtMostForty
  at_most_forty i = let g = lesson_good ts in (omega (arith, holds_held (book_after ts) g i), holds_count (book_after ts) g i)

  at_most_eighty : AtMostEighty ts
  unfolding AtMostEighty
  at_most_eighty = room_high (book_after ts) (lesson_good ts).ok

  tens_are_safe : TensAreSafe ts
  unfolding TensAreSafe
  tens_are_safe i c few = tens_safe (book_after ts) i c (omega (arith, few, holds_held (book_after ts) (lesson_good ts) i))

  as_if_alone : (i : ℕ) → AsIfAlone i ts
  as_if_alone i =
      let r = alone_from_empty i ts in
      let lone = turns (left i ts) in
      record {
        same_answers = r.answers;
        same_plan = ap (λ (s : Seat). plan_of s) r.seat;
        same_list =
            list_own (book_after lone) (lesson_good lone) i ∙ ap (λ (s : Seat). list_of i false s) r.seat
            ∙ sym (list_own (book_after ts) (lesson_good ts) i);
      }

pub demand_3 : (ts : List Turn) → Demand3 ts
demand_3 ts =
    record {
      at_most_forty = at_most_forty ts;
      at_most_eighty = at_most_eighty ts;
      tens_are_safe = tens_are_safe ts;
      as_if_alone = as_if_alone ts;
    }

-- "240 places": a first ten for each of sixteen, and 80 beyond
pub places_240 : (ts : List Turn) → total (λ (s : Seat). held s) (book_after ts).seats ≤ 240
unfolding common
places_240 ts =
    let g = lesson_good ts in
    omega (arith, total_beyond (λ (s : Seat). held s) 10 (book_after ts).seats, g.sixteen, room_high (book_after ts) g.ok)

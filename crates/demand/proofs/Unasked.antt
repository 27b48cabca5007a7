-- A lesson worked out without asking the book's conditions at each turn: they are met, so 12 is not given. Cited by the crates limits and figures, which compute lessons.
-- Assumes nothing.
use mathlib.Core.Path.{◌≡◌, refl, ap, subst, ◌∙◌}
use mathlib.Core.Bool.{Bool, false}
use mathlib.Core.List.{List, [], ◌∷◌}
use Prim.Native.Nat.{ℕ}
use Rattle.refusals.specs.Refusals.{first_of, after}
use Rattle.classbook.specs.declared.Book.{Book}
use Rattle.classbook.specs.Book.{empty_book, seat_of, with_seat}
use Rattle.classbook.specs.Conditions.{room_used_up}
use Rattle.demand.specs.Lesson.{Call, Turn, reply, number_of, next, run_through}
use Rattle.demand.specs.Demand.{book_after}
use Rattle.demand.proofs.Own.{table, number_own, told, reply_own, made, next_own}
use Rattle.demand.proofs.Books.{Good, empty_good, next_good, run_good}
use Rattle.demand.proofs.Alone.{not_bad}

unfoldable pub number_then : Book → ℕ → Call → ℕ
number_then b i c = first_of (table false (room_used_up b (seat_of b i)) (seat_of b i) i c)

unfoldable pub next_then : Book → ℕ → Call → Book
next_then b i c = after (number_then b i c) b (with_seat b i (made (seat_of b i) c))

unfoldable pub run_then : Book → List Turn → Book
run_then b [] = b
run_then b (t ∷ ts) = run_then (next_then b t.seat t.call) ts

module _ (b : Book) (g : Good b) (i : ℕ) (c : Call) where
  number_then_lem : number_of (reply b i c) ≡ number_then b i c
  unfolding number_then
  number_then_lem = number_own b i c ∙ ap (λ (bad : Bool). first_of (table bad (room_used_up b (seat_of b i)) (seat_of b i) i c)) (not_bad b g)

  next_then_lem : next b i c ≡ next_then b i c
  unfolding next_then
  next_then_lem = next_own b i c ∙ ap (λ (n : ℕ). after n b (with_seat b i (made (seat_of b i) c))) number_then_lem

  reply_then : reply b i c ≡ told (number_then b i c) (seat_of b i) c
  reply_then = reply_own b i c ∙ ap (λ (n : ℕ). told n (seat_of b i) c) number_then_lem

run_then_lem : (ts : List Turn) (b : Book) → Good b → run_through b ts ≡ run_then b ts
unfolding run_through run_then
run_then_lem [] b g = refl
run_then_lem (t ∷ ts) b g =
    run_then_lem ts (next b t.seat t.call) (next_good b t.seat t.call g) ∙ ap (λ (d : Book). run_then d ts) (next_then_lem b g t.seat t.call)

-- ---- after a lesson
abbrev pub book_then : List Turn → Book
book_then ts = run_then empty_book ts

pub book_unasked : (ts : List Turn) → book_after ts ≡ book_then ts
book_unasked ts = run_then_lem ts empty_book empty_good

good_then : (ts : List Turn) → Good (book_then ts)
good_then ts = subst (λ (b : Book). Good b) (book_unasked ts) (run_good ts empty_book empty_good)

pub number_unasked : (ts : List Turn) (i : ℕ) (c : Call) → number_of (reply (book_after ts) i c) ≡ number_then (book_then ts) i c
number_unasked ts i c = ap (λ (b : Book). number_of (reply b i c)) (book_unasked ts) ∙ number_then_lem (book_then ts) (good_then ts) i c

pub reply_unasked : (ts : List Turn) (i : ℕ) (c : Call) → reply (book_after ts) i c ≡ told (number_then (book_then ts) i c) (seat_of (book_then ts) i) c
reply_unasked ts i c = ap (λ (b : Book). reply b i c) (book_unasked ts) ∙ reply_then (book_then ts) (good_then ts) i c

-- The limits of demand 3 are reached, so no smaller number is one: 40 of a seat, 80 beyond the
-- first tens, 240 places; and whoever holds 10 is no longer safe from 20. Cited by docs/.
-- Assumes nothing.
use mathlib.Core.Path.{◌≡◌, ap}
use mathlib.Core.Logic.{⊎_elim}
use mathlib.Core.List.{List}
use Prim.Native.Nat.{ℕ, ◌≤◌, ◌<◌}
use native.Mathlib.Omega.{arith}
use lib.Dec.{leb}
use lib.ListN.{get_or}
use borrow.Author.Tests.{leb-true, leb-false}
use Rattle.laws.specs.Lists.{total}
use Rattle.laws.proofs.Lists.{by_cases}
use Rattle.seats.specs.declared.Seat.{Seat}
use Rattle.seats.specs.Seats.{held}
use Rattle.classbook.specs.Book.{common}
use Rattle.demand.specs.Lesson.{Call, books, Turn, reply, number_of}
use Rattle.demand.specs.Demand.{holds, book_after}
use Rattle.limits.specs.Limits.{code, three_seats, whole_class, Seen, seen}
use Rattle.limits.specs.Limits.{at_three_seats, at_whole_class}
use Rattle.limits.proofs.Computed.{computed}

-- "Three seats hold 40, 40 and 30, nobody else any: those at 40 get 19, the third gets 20"
pub three_seats_lem : seen (book_after three_seats) ≡ at_three_seats
three_seats_lem = computed.0

-- "and an empty seat still books 10": all thirteen do, and then all places are in use
pub whole_class_lem : seen (book_after whole_class) ≡ at_whole_class
whole_class_lem = computed.1

-- (a) 40 is reached, and one more gets 19
pub forty_reached : holds (book_after three_seats) 0 ≡ 40
forty_reached = ap (λ (s : Seen). get_or s.each 0 0) three_seats_lem

pub forty_refuses : number_of (reply (book_after three_seats) 0 (books (code 40))) ≡ 19
forty_refuses = ap (λ (s : Seen). get_or s.one_more 0 0) three_seats_lem

pub forty_least : (n : ℕ) → ((ts : List Turn) (i : ℕ) → holds (book_after ts) i ≤ n) → 40 ≤ n
forty_least n h = omega (arith, h three_seats 0, forty_reached)

-- (b) 80 beyond the first tens are reached, and one more, of a seat below its 40, gets 20
pub eighty_reached : common (book_after three_seats) ≡ 80
eighty_reached = ap (λ (s : Seen). s.beyond) three_seats_lem

pub eighty_refuses : number_of (reply (book_after three_seats) 2 (books (code 40))) ≡ 20
eighty_refuses = ap (λ (s : Seen). get_or s.one_more 2 0) three_seats_lem

pub eighty_least : (n : ℕ) → ((ts : List Turn) → common (book_after ts) ≤ n) → 80 ≤ n
eighty_least n h = omega (arith, h three_seats, eighty_reached)

-- "240 places": all are used
pub places_reached : total (λ (s : Seat). held s) (book_after whole_class).seats ≡ 240
places_reached = ap (λ (s : Seen). s.places) whole_class_lem

-- (c) whoever holds 10 may be refused 20
pub ten_refuses : (holds (book_after whole_class) 3 ≡ 10)
    × (number_of (reply (book_after whole_class) 3 (books (code 40))) ≡ 20)
ten_refuses =
    let holding = ap (λ (s : Seen). get_or s.each 3 0) whole_class_lem in
    let number = ap (λ (s : Seen). get_or s.one_more 3 0) whole_class_lem in
    (holding, number)

-- so 10 is the most for which "whoever holds fewer" is safe
pub ten_most : (n : ℕ)
    → ((ts : List Turn) (i : ℕ) (c : Call) → holds (book_after ts) i < n
    → number_of (reply (book_after ts) i c) ≡ 20 → ⊥) → n ≤ 10
ten_most n safe =
    ⊎_elim
    (λ t. leb-true n 10 t)
    (λ f. absurd (above (leb-false n 10 f)))
    (by_cases (leb n 10))
  where
    above : 10 < n → ⊥
    above more =
        let fewer : holds (book_after whole_class) 3 < n = omega (arith, more, ten_refuses.0) in
        safe whole_class 3 (books (code 40)) fewer ten_refuses.1

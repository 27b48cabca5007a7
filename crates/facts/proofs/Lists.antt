-- Document 01, "A list goes .. by timeslot, then by first leaf": whatever two places of a list are
-- looked at, as the book keeps it and as each call gives it. No function's proof cites it: it is
-- for the reader. Assumes nothing.
use mathlib.Core.Path.{◌≡◌, sym, ap, ◌∙◌}
use mathlib.Core.Bool.{Bool, true, not}
use mathlib.Core.List.{List, [], ◌∷◌, ◌++◌}
use Prim.Native.Nat.{ℕ, zero, suc, ◌≤◌, ◌<◌}
use native.Mathlib.Nat.{not-suc-le-zero, le_of_suc-le-suc}
use native.Mathlib.Omega.{arith}
use lib.Dec.{ltb}
use lib.ListN.{length, take, drop, get_or}
use lib.Seq.{get_or-take, take_at}
use borrow.Author.Tests.{ltb-true}
use Rattle.laws.specs.Lists.{every, pairs}
use Rattle.laws.proofs.Bools.{and_true}
use Rattle.laws.proofs.Lists.{every_at}
use Rattle.refusals.specs.Refusals.{answered, ◌leaving◌, first_of}
use Rattle.refusals.proofs.First.{first_none, leaving_given}
use Rattle.bookings.specs.declared.Booking.{Booking}
use Rattle.bookings.specs.Bookings.{leaf, key, clash, comes, fine}
use Rattle.bookings.proofs.Formed.{Formed}
use Rattle.seats.specs.Seats.{blank, held, bookings, stands_in}
use Rattle.seats.proofs.Tested.{stands_formed}
use Rattle.seats.proofs.Sound.{sound}
use Rattle.plans.proofs.Plans.{plan_length}
use Rattle.classbook.specs.declared.Book.{Book}
use Rattle.classbook.specs.Book.{seat_of, book_ok}
use Rattle.classbook.specs.Calls.{seat_refusals, list_answer}
use Rattle.classbook.proofs.Passed.{seat_good, seat_passed}
use Rattle.classbook.proofs.Valid.{Sized}
use Rattle.classbook.proofs.Meaning.{listed_plan}
use Rattle.listing.specs.Listing.{few_records, list_refusals, list_outcome}

-- x stands before y "by timeslot, then by first leaf"; in one timeslot no two have the same first
-- leaf, since codes of one timeslot of a seat share none
pub record InOrder (x y : Booking) : Type 0 where
  pub by_timeslot : x.timeslot ≤ y.timeslot
  pub then_by_leaf : x.timeslot ≡ y.timeslot → leaf x < leaf y

-- ---- where each stands in a relation to every later one, so do any two places
pairs_at : {A : Type 0} (R : A → A → Bool) (l : List A) (i j : ℕ) (d : A) → i < j → j < length l
    → pairs R l ≡ true → R (get_or l i d) (get_or l j d) ≡ true
unfolding pairs
pairs_at R [] i j d ij jl e = absurd (not-suc-le-zero jl)
pairs_at R (x ∷ l) i zero d ij jl e = absurd (not-suc-le-zero ij)
pairs_at R (x ∷ l) zero (suc j) d ij jl e =
    every_at (R x) l j d (le_of_suc-le-suc jl) (and_true (every (R x) l) (pairs R l) e).0
pairs_at R (x ∷ l) (suc i) (suc j) d ij jl e =
    pairs_at R l i j d (le_of_suc-le-suc ij) (le_of_suc-le-suc jl)
    (and_true (every (R x) l) (pairs R l) e).1

-- the one number that the book orders by is both: a first leaf is below 16
both_orders : (x y : Booking) → Formed y → fine x y ≡ true → InOrder x y
unfolding fine comes
both_orders x y fy e =
    let less : key x < key y =
    ltb-true (key x) (key y) (and_true (ltb (key x) (key y)) (not (clash x y)) e).0 in
    record {
      by_timeslot = omega (arith, less, fy.leaf_high);
      then_by_leaf = λ same. omega (arith, less, same);
    }

module _ (b : Book) (sized : Sized b) (seat : ℕ) where
  -- ---- a seat's bookings, in a book that meets its conditions
  pub bookings-in_order : book_ok b ≡ true → seat ≤ 15 → (i j : ℕ) → i < j
      → j < held (seat_of b seat)
      → let l = bookings (seat_of b seat) in InOrder (get_or l i blank) (get_or l j blank)
  bookings-in_order ok low i j ij jh =
      let s = seat_of b seat in
      let l = bookings s in
      let o = sound s (seat_good b seat sized.seats ok low) in
      let jl : j < length l = omega (arith, plan_length s (sized.rows seat low), jh) in
      both_orders (get_or l i blank) (get_or l j blank)
      (stands_formed s.case s.k s.long s.short (get_or l j blank)
      (every_at (stands_in s) l j blank jl o.standing))
      (pairs_at fine l i j blank ij jl o.ordered)

  -- the same of a row that begins with them
  row_in_order : (row : List Booking) (n : ℕ) → take n row ≡ bookings (seat_of b seat)
      → n ≡ held (seat_of b seat) → book_ok b ≡ true → seat ≤ 15 → (i j : ℕ) → i < j → j < n
      → InOrder (get_or row i blank) (get_or row j blank)
  row_in_order row n e many ok low i j ij jn =
      rw (shown i (omega (arith, ij, jn)), shown j jn)
      (bookings-in_order ok low i j ij (omega (arith, jn, many)))
    where
      shown : (p : ℕ) → p < n → get_or row p blank ≡ get_or (bookings (seat_of b seat)) p blank
      shown p h =
          sym (get_or-take n row p blank h) ∙ ap (λ (l : List Booking). get_or l p blank) e

  -- ---- the list by value: its first `count` places
  pub list_in_order : (list_answer b seat).refusal ≡ 0 → (i j : ℕ) → i < j
      → j < (list_answer b seat).count
      → InOrder (get_or (list_answer b seat).row i blank) (get_or (list_answer b seat).row j blank)
  unfolding list_answer
  list_in_order z =
      let p = seat_passed b seat z in
      let told = listed_plan b sized seat z in
      let many = sym told.1 ∙ plan_length (seat_of b seat) (sized.rows seat p.seat_low) in
      row_in_order (list_answer b seat).row (list_answer b seat).count told.0 many
      p.valid p.seat_low

  -- ---- the list into lent records: n is returned, and the first n records are in order
  module _ (out written : List Booking) (n : ℕ)
      (given : list_outcome b seat out ≡ (answered n leaving written)) where
    parts : (first_of (list_refusals b seat out) ≡ 0) × (length (bookings (seat_of b seat)) ≡ n)
        × (bookings (seat_of b seat) ++ drop (length (bookings (seat_of b seat))) out ≡ written)
    unfolding list_outcome
    parts = leaving_given _ _ n out _ written given

    none_refused : first_of (seat_refusals b seat) ≡ 0
    unfolding list_refusals
    none_refused = (first_none 10 (few_records out) (seat_refusals b seat) parts.0).1

    -- "the number written is returned", which is how many the seat holds
    pub lent_number : n ≡ held (seat_of b seat)
    lent_number =
        sym parts.1
        ∙ plan_length (seat_of b seat) (sized.rows seat (seat_passed b seat none_refused).seat_low)

    pub lent_in_order : (i j : ℕ) → i < j → j < n
        → InOrder (get_or written i blank) (get_or written j blank)
    lent_in_order =
        let p = seat_passed b seat none_refused in
        let l = bookings (seat_of b seat) in
        row_in_order written n
        (ap (take n) (sym parts.2) ∙ take_at l (drop (length l) out) n parts.1)
        lent_number p.valid p.seat_low

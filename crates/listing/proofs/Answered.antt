-- What a list selects, and that writing it and replying so is the outcome that document 01 asks for. Cited by the proof of `list`.
-- Assumes nothing.
use mathlib.Core.Path.{◌≡◌, refl, sym, ap, ◌∙◌}
use mathlib.Core.List.{List, ◌∷◌, ◌++◌}
use Prim.Native.Nat.{ℕ, ◌≤◌}
use native.Mathlib.Omega.{arith}
use lib.Dec.{ltb}
use lib.ListN.{length, take, drop, replicate}
use lib.Seq.{length-take-le}
use borrow.Author.Tests.{ltb-false}
use Rattle.std.specs.Prelude.{Result, Ok, Err}
use Rattle.std.specs.Result.{IsErrAnd}
use Rattle.refusals.specs.declared.Refusal.{Refusal}
use Rattle.refusals.specs.Refusals.{◌leaving◌, answered, first_of, number_of, said}
use Rattle.refusals.proofs.First.{first_none, after_answered, refused_leaving, answered_leaving}
use Rattle.refusals.proofs.Numbers.{number_not_0}
use Rattle.bookings.specs.declared.Booking.{Booking}
use Rattle.seats.specs.declared.Seat.{Seat}
use Rattle.seats.specs.Seats.{blank, held}
use Rattle.classbook.specs.declared.Book.{Book}
use Rattle.classbook.specs.declared.List as by-value
use Rattle.classbook.specs.Book.{seat_of}
use Rattle.classbook.specs.Calls.{ListAnswer, said_list, seat_refusals}
use Rattle.listing.specs.Listing.{few_records, list_refusals, list_outcome}
use Rattle.listing.specs.Inside.{selection_of}

module _ (b : Book) (seat : ℕ) (ys : List Booking) where
  abbrev s : Seat
  s = seat_of b seat

  abbrev n : ℕ
  n = first_of ((11, ltb (length ys) 40) ∷ seat_refusals b seat)

  -- refused: the reply is the refusal, and nothing is written
  pub refused_list : (r : Result ℕ Refusal) (e : Refusal) → IsErrAnd r (λ y. y ≡ e) → said_list (Err e) ≡ selection_of b seat (length ys)
      → (said r leaving ys) ≡ list_outcome b seat ys
  unfolding selection_of list_outcome list_refusals few_records
  refused_list (Ok v) e h told = absurd h
  refused_list (Err y) e h told =
      let number : number_of y ≡ n = ap number_of h ∙ ap (λ (a : ListAnswer). a.refusal) told in
      refused_leaving (number_of y) n _ ys _ number (number_not_0 y)

  -- given: the reply is how many, and so many of the row are written
  module _ (l : by-value.List) (told : said_list (Ok l) ≡ selection_of b seat (length ys)) where
    passed : 0 ≡ n
    unfolding selection_of
    passed = ap (λ (a : ListAnswer). a.refusal) told

    many : l.count ≡ held s
    unfolding selection_of
    many = ap (λ (a : ListAnswer). a.count) told ∙ after_answered n 0 (held s) (sym passed)

    row : l.row ≡ s.row
    unfolding selection_of
    row = ap (λ (a : ListAnswer). a.row) told ∙ after_answered n (replicate 40 blank) s.row (sym passed)

    -- what `fill` asks
    pub at_most : (l.count ≤ 40) × (l.count ≤ length ys)
    at_most =
        let high = ltb-false (length ys) 40 (first_none 10 _ _ (sym passed)).0 in
        (omega (arith, many), omega (arith, many, high))

    pub given_list : length l.row ≡ 40 → (zs : List Booking) → zs ≡ take l.count l.row ++ drop l.count ys
        → (answered l.count leaving zs) ≡ list_outcome b seat ys
    unfolding list_outcome list_refusals few_records
    given_list wide zs written =
        let as_many : length (take (held s) s.row) ≡ held s = length-take-le (held s) s.row (omega (arith, ap length row, wide)) in
        answered_leaving 0 n l.count (length (take (held s) s.row)) ys zs _ passed refl (many ∙ sym as_many)
        (written
        ∙ ap (λ (k : ℕ). take k l.row ++ drop k ys) many
        ∙ ap (λ (r : List Booking). take (held s) r ++ drop (held s) ys) row
        ∙ ap (λ (k : ℕ). take (held s) s.row ++ drop k ys) (sym as_many))

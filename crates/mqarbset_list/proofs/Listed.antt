-- A seat's bookings are written as records, one a turn, and what a list then answers and leaves. Cited by the proofs of `put_all` and `list`.
-- Assumes nothing.
use mathlib.Core.Path.{◌≡◌, refl, sym, ap, ◌∙◌}
use mathlib.Core.Bool.{true, false}
use mathlib.Core.List.{List, [], ◌∷◌, ◌++◌, append_assoc, append-nil}
use Prim.Native.Nat.{ℕ, ◌+◌, ◌*◌, ◌≤◌, ◌<◌}
use native.Mathlib.Numerals.{add-one}
use native.Mathlib.Omega.{arith}
use lib.Dec.{ltb}
use lib.ListN.{length, take, drop, get_or, length-append, length-take}
use lib.Seq.{take-suc, take_at, drop_at, drop-drop, paste, length-take-le}
use borrow.Author.Tests.{ltb-false}
use Rattle.std.specs.Prelude.{Result, Ok, Err}
use Rattle.std.specs.Result.{IsErrAnd}
use Rattle.conditions.specs.Conditions.{too_short}
use Rattle.refusals.specs.declared.Refusal.{Refusal}
use Rattle.refusals.specs.declared.Refusal.TheVariants.{ShortMemory}
use Rattle.refusals.specs.Refusals.{answered, ◌leaving◌, first_of, number_of, said}
use Rattle.refusals.proofs.First.{first_holds, first_passes, after_answered, refused_leaving, answered_leaving}
use Rattle.refusals.proofs.Numbers.{number_not_0}
use Rattle.bookings.specs.declared.Booking.{Booking}
use Rattle.seats.specs.Seats.{held, bookings}
use Rattle.classbook.specs.declared.Book.{Book}
use Rattle.classbook.specs.declared.List as by-value
use Rattle.classbook.specs.Book.{seat_of}
use Rattle.classbook.specs.Calls.{ListAnswer, said_list, seat_refusals, list_answer}
use Rattle.mqarbset_list.specs.Records.{record_of, records_of, records_refusals, records_outcome}

pub records_length : (l : List Booking) → length (records_of l) ≡ 8 * length l
unfolding records_of record_of
records_length [] = refl
records_length (x ∷ l) = omega (arith, length-append (record_of x) (records_of l), records_length l)

records_append : (l m : List Booking) → records_of (l ++ m) ≡ records_of l ++ records_of m
unfolding records_of
records_append [] m = refl
records_append (x ∷ l) m = ap (λ (r : List ℕ). record_of x ++ r) (records_append l m) ∙ sym (append_assoc (record_of x) (records_of l) (records_of m))

records_more : (row : List Booking) (i : ℕ) (d : Booking) → i < length row → records_of (take (i + 1) row) ≡ records_of (take i row) ++ record_of (get_or row i d)
unfolding records_of
records_more row i d h =
    ap (λ (k : ℕ). records_of (take k row)) (add-one i)
    ∙ ap records_of (take-suc row i d h)
    ∙ records_append (take i row) (get_or row i d ∷ [])
    ∙ ap (λ (r : List ℕ). records_of (take i row) ++ r) (append-nil (record_of (get_or row i d)))

-- one more record
pub records_turn : (row : List Booking) (i : ℕ) (d : Booking) (was out next y : List ℕ) → i < length row → out ≡ records_of (take i row) ++ drop (8 * i) was
    → y ≡ record_of (get_or row i d) → next ≡ paste out (8 * i) y 8 → next ≡ records_of (take (i + 1) row) ++ drop (8 * (i + 1)) was
unfolding record_of
records_turn row i d was out next y h e ey en =
    let p = records_of (take i row) in
    let l : length p ≡ 8 * i = records_length (take i row) ∙ ap (λ (k : ℕ). 8 * k) (length-take-le i row (omega arith)) in
    let k : 8 * i + 8 ≡ 8 * (i + 1) = omega arith in
    let rest : drop (8 * i + 8) (p ++ drop (8 * i) was) ≡ drop (8 * (i + 1)) was =
    sym (drop-drop 8 (8 * i) (p ++ drop (8 * i) was)) ∙ ap (drop 8) (drop_at p (drop (8 * i) was) (8 * i) l) ∙ drop-drop 8 (8 * i) was ∙ ap (λ (n : ℕ). drop n was) k in
    en
    ∙ ap (λ (o : List ℕ). paste o (8 * i) y 8) e
    ∙ ap (λ (z : List ℕ). paste (p ++ drop (8 * i) was) (8 * i) z 8) ey
    ∙ ap (λ (t : List ℕ). t ++ record_of (get_or row i d) ++ drop (8 * i + 8) (p ++ drop (8 * i) was)) (take_at p (drop (8 * i) was) (8 * i) l)
    ∙ ap (λ (t : List ℕ). p ++ record_of (get_or row i d) ++ t) rest
    ∙ ap (λ (t : List ℕ). t ++ drop (8 * (i + 1)) was) (sym (records_more row i d h))

-- ---- what a list answers and leaves

-- the book that was read, the seat asked, and the memory lent
module _ (b : Book) (seat : ℕ) (was : List ℕ) where
  -- refused for short memory
  pub list_short : (r : Result ℕ Refusal) (e : Refusal) → IsErrAnd r (λ y. y ≡ e) → e ≡ ShortMemory → ltb (length was) 320 ≡ true → (said r leaving was) ≡ records_outcome b seat was
  unfolding records_outcome records_refusals too_short number_of
  list_short (Ok v) e h s t = absurd h
  list_short (Err y) e h s t =
      let first = first_holds 11 (ltb (length was) 320) (seat_refusals b seat) t in
      refused_leaving (number_of y) _ _ was _ (ap number_of (h ∙ s) ∙ sym first) (number_not_0 y)

  module _ (room : ltb (length was) 320 ≡ false) where
    passes : first_of (records_refusals b seat was) ≡ first_of (seat_refusals b seat)
    unfolding records_refusals too_short
    passes = first_passes 11 _ (seat_refusals b seat) room

    -- or as the list by value is
    pub list_refused : (r : Result ℕ Refusal) (e : Refusal) → IsErrAnd r (λ y. y ≡ e) → said_list (Err e) ≡ list_answer b seat → (said r leaving was) ≡ records_outcome b seat was
    unfolding records_outcome list_answer
    list_refused (Ok v) e h told = absurd h
    list_refused (Err y) e h told =
        let number : number_of y ≡ first_of (seat_refusals b seat) = ap number_of h ∙ ap (λ (a : ListAnswer). a.refusal) told in
        refused_leaving (number_of y) _ _ was _ (number ∙ sym passes) (number_not_0 y)

    -- or given: the records are written, and the answer is how many
    module _ (l : by-value.List) (told : said_list (Ok l) ≡ list_answer b seat) where
      passed : 0 ≡ first_of (seat_refusals b seat)
      unfolding list_answer
      passed = ap (λ (a : ListAnswer). a.refusal) told

      counted : l.count ≡ held (seat_of b seat)
      unfolding list_answer
      counted = ap (λ (a : ListAnswer). a.count) told ∙ after_answered _ 0 (held (seat_of b seat)) (sym passed)

      rowed : l.row ≡ (seat_of b seat).row
      unfolding list_answer
      rowed = ap (λ (a : ListAnswer). a.row) told ∙ after_answered _ _ (seat_of b seat).row (sym passed)

      pub list_few : l.count ≤ 40
      list_few = omega (arith, counted)

      -- what `put_all` asks
      pub list_room : 8 * length (take l.count l.row) ≤ length was
      list_room = let high = ltb-false (length was) 320 room in omega (arith, length-take {A = Booking} l.count l.row, list_few, high)

      pub list_given : (out : List ℕ) → length l.row ≡ 40 → out ≡ records_of (take l.count l.row) ++ drop (8 * length (take l.count l.row)) was
          → (answered l.count leaving out) ≡ records_outcome b seat was
      unfolding records_outcome
      list_given out forty o =
          let m = bookings (seat_of b seat) in
          let same : take l.count l.row ≡ m =
          ap (λ (k : ℕ). take k l.row) counted ∙ ap (λ (r : List Booking). take (held (seat_of b seat)) r) rowed in
          let many : l.count ≡ length m = sym (length-take-le l.count l.row (omega (arith, list_few))) ∙ ap length same in
          answered_leaving 0 _ l.count (length m) was out (records_of m ++ drop (8 * length m) was) (passed ∙ sym passes) refl many
          (o ∙ ap (λ (r : List Booking). records_of r ++ drop (8 * length r) was) same)

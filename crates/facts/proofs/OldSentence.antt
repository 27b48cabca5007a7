-- Before document 02 the class book kept the sentence of source 000, "burst types are not mixed in
-- one timeslot": types clashed where they differed. What clashes by document 02 clashed by that
-- sentence, and what passed the old rules on counts and users passes (OldCounts), so a book that met
-- its conditions by document 01 alone still meets them. No other definition or proof has the old
-- sentence. No function's proof cites it: it is for the reader. Assumes nothing.
use mathlib.Core.Path.{◌≡◌, refl, sym, ap, ◌∙◌}
use mathlib.Core.Logic.{⊎_elim}
use mathlib.Core.Bool.{Bool, true, false, not, xor, ◌&&◌, ◌||◌, or-true}
use mathlib.Core.List.{List, [], ◌∷◌, map}
use Prim.Native.Nat.{ℕ, min}
use lib.Dec.{eqb, leb}
use lib.ListN.{take}
use borrow.Author.Tests.{eqb-true, not-true}
use Rattle.laws.specs.Lists.{every, pairs}
use Rattle.laws.proofs.Bools.{true_false, and_true, both}
use Rattle.laws.proofs.Cases.{by_cases, either}
use Rattle.bookings.specs.declared.Booking.{Booking}
use Rattle.bookings.specs.Bookings.{overlaps, same_direction, mixed, clash, comes, fine}
use Rattle.bookings.proofs.Types.{mixed_self}
use Rattle.seats.specs.declared.Seat.{Seat}
use Rattle.seats.specs.Seats.{bookings, bare_or_good, at_most_forty, each_may_stand, no_two_clash}
use Rattle.seats.specs.Seats.{is_bare, rest_blank, summary_agrees, stands_in, seat_ok}
use Rattle.classbook.specs.declared.Book.{Book}
use Rattle.classbook.specs.Book.{common, book_ok}
use Rattle.facts.proofs.OldCounts.{old_good_settings, old_stands_in, settings_then, stands_then}

-- ---- the old sentence, and what was read from it
unfoldable pub old_mixed : ℕ → ℕ → Bool
old_mixed t u = not (eqb t u)

unfoldable pub old_clash : Booking → Booking → Bool
old_clash x y =
    eqb x.timeslot y.timeslot
    && (not (same_direction x.direction y.direction)
    || (old_mixed x.burst y.burst || overlaps x y))

unfoldable pub old_fine : Booking → Booking → Bool
old_fine x y = comes x y && not (old_clash x y)

unfoldable pub old_seat_ok : Seat → Bool
old_seat_ok s =
    (is_bare s || (s.live && old_good_settings s))
    && (at_most_forty s
    && (every (old_stands_in s) (bookings s) && (pairs old_fine (bookings s) && (rest_blank s && summary_agrees s))))

unfoldable pub old_book_ok : Book → Bool
old_book_ok b = every old_seat_ok b.seats && leb (common b) 80

-- ---- types, and bookings
mixed_then : (t u : ℕ) → mixed t u ≡ true → old_mixed t u ≡ true
unfolding old_mixed
mixed_then t u m =
    ⊎_elim
    (λ e. true_false (sym m ∙ (ap (λ n. mixed n u) (eqb-true t u e) ∙ mixed_self u)))
    (λ f. ap not f) (by_cases (eqb t u))

or_more : (a b c d : Bool) → (b ≡ true → c ≡ true) → (a || (b || d)) ≡ true → (a || (c || d)) ≡ true
or_more true b c d h e = refl
or_more false true c d h e = rw (h refl) refl
or_more false false c d h e = rw e (or-true c)

-- the clash of document 02 implies the old one
pub clash_then : (x y : Booking) → clash x y ≡ true → old_clash x y ≡ true
unfolding clash old_clash
clash_then x y h =
    let slot = eqb x.timeslot y.timeslot in
    let other = not (same_direction x.direction y.direction) in
    let over = overlaps x y in
    let two = mixed x.burst y.burst in
    let old = old_mixed x.burst y.burst in
    let c = and_true slot (other || (two || over)) h in
    both slot (other || (old || over)) c.0
    (or_more other two old over (mixed_then x.burst y.burst) c.1)

fine_then : (x y : Booking) → old_fine x y ≡ true → fine x y ≡ true
unfolding old_fine fine
fine_then x y h =
    let c = and_true (comes x y) (not (old_clash x y)) h in
    both (comes x y) (not (clash x y)) c.0
    (⊎_elim (λ t. true_false (sym (clash_then x y t) ∙ not-true (old_clash x y) c.1))
    (λ f. ap not f) (by_cases (clash x y)))

-- ---- lists of them
module _ {A : Type 0} where
  every_more : (p q : A → Bool) → ((x : A) → p x ≡ true → q x ≡ true) → (l : List A)
      → every p l ≡ true → every q l ≡ true
  unfolding every
  every_more p q h [] e = refl
  every_more p q h (x ∷ l) e =
      let c = and_true (p x) (every p l) e in
      both (q x) (every q l) (h x c.0) (every_more p q h l c.1)

  pairs_more : (r s : A → A → Bool) → ((x y : A) → r x y ≡ true → s x y ≡ true) → (l : List A)
      → pairs r l ≡ true → pairs s l ≡ true
  unfolding pairs
  pairs_more r s h [] e = refl
  pairs_more r s h (x ∷ l) e =
      let c = and_true (every (r x) l) (pairs r l) e in
      both (every (s x) l) (pairs s l) (every_more (r x) (s x) (h x) l c.0)
      (pairs_more r s h l c.1)

-- ---- a seat, and a book

-- a closed seat holds nothing
bare_holds_none : (s : Seat) → is_bare s ≡ true → bookings s ≡ []
unfolding is_bare
bare_holds_none s h =
    let a = and_true (not s.live) _ h in
    let b = and_true (eqb s.cell 0) _ a.1 in
    let c = and_true (eqb s.case 0) _ b.1 in
    let d = and_true (eqb s.k 0) _ c.1 in
    let e = and_true (eqb s.long 0) _ d.1 in
    let f = and_true (eqb s.short 0) (eqb s.count 0) e.1 in
    ap (λ (n : ℕ). take (min n 40) s.row) (eqb-true s.count 0 f.1)

-- its settings and its bookings pass
settings_and_bookings : (s : Seat) → (is_bare s || (s.live && old_good_settings s)) ≡ true
    → every (old_stands_in s) (bookings s) ≡ true → (bare_or_good s ≡ true) × (each_may_stand s ≡ true)
unfolding every
settings_and_bookings s h e = ⊎_elim bare live (either (is_bare s) _ h)
  where
    bare : is_bare s ≡ true → (bare_or_good s ≡ true) × (each_may_stand s ≡ true)
    bare t = (rw t refl, rw (bare_holds_none s t) refl)

    live : (s.live && old_good_settings s) ≡ true → (bare_or_good s ≡ true) × (each_may_stand s ≡ true)
    live t =
        let g = and_true s.live _ t in (
          ap (λ (b : Bool). is_bare s || b) (both _ _ g.0 (settings_then s g.1)) ∙ or-true (is_bare s),
          every_more (old_stands_in s) (stands_in s) (stands_then s g.1) (bookings s) e,
        )

seat_then : (s : Seat) → old_seat_ok s ≡ true → seat_ok s ≡ true
unfolding old_seat_ok seat_ok
seat_then s h =
    let a = and_true (is_bare s || (s.live && old_good_settings s)) _ h in
    let b = and_true (at_most_forty s) _ a.1 in
    let c = and_true (every (old_stands_in s) (bookings s)) _ b.1 in
    let d = and_true (pairs old_fine (bookings s)) (rest_blank s && summary_agrees s) c.1 in
    let g = settings_and_bookings s a.0 c.0 in
    let n : no_two_clash s ≡ true = pairs_more old_fine fine fine_then (bookings s) d.0 in
    both _ _ g.0 (both _ _ b.0 (both _ _ g.1 (both _ _ n d.1)))

-- a book that met its conditions by document 01 alone still meets them
pub old_book_kept : (b : Book) → old_book_ok b ≡ true → book_ok b ≡ true
unfolding old_book_ok book_ok
old_book_kept b h =
    let c = and_true (every old_seat_ok b.seats) (leb (common b) 80) h in
    both _ _ (every_more old_seat_ok seat_ok seat_then b.seats c.0) c.1

-- what is let in beside each other now and was not, a row for each of the types 1, 2 and 3: types
-- 1 and 3 and nothing else
pub let_in : map (λ t. map (λ u. old_mixed t u && not (mixed t u)) (1 ∷ 2 ∷ 3 ∷ [])) (1 ∷ 2 ∷ 3 ∷ [])
    ≡ (false ∷ false ∷ true ∷ []) ∷ (false ∷ false ∷ false ∷ []) ∷ (true ∷ false ∷ false ∷ []) ∷ []
unfolding old_mixed mixed xor
let_in = refl

-- The test of a seat as the code makes it, neighbour by neighbour and timeslot by timeslot, is the one of the definition. Cited by seat_ok's proof.
-- Assumes nothing.
use mathlib.Core.Path.{◌≡◌, refl, sym, ap, ◌∙◌}
use mathlib.Core.Bool.{Bool, true, false, not, ◌&&◌, ◌||◌}
use mathlib.Core.List.{List}
use Prim.Native.Nat.{ℕ}
use lib.Dec.{eqb, leb}
use lib.ListN.{drop}
use borrow.Author.Tests.{eqb-true}
use Rattle.laws.specs.Lists.{every, pairs, chain, matches}
use Rattle.laws.proofs.Bools.{and_true}
use Rattle.laws.proofs.Lists.{every_true}
use Rattle.laws.proofs.Matches.{pairs_both}
use Rattle.laws.proofs.Neighbours.{chain_pairs}
use Rattle.bookings.specs.declared.Booking.{Booking}
use Rattle.bookings.specs.Bookings.{form_of, comes, fine}
use Rattle.bookings.proofs.Formed.{Formed, formed}
use Rattle.bookings.proofs.Order.{comes_trans}
use Rattle.slots.specs.Slots.{same_slot, summary_of}
use Rattle.slots.proofs.ByMasks.{no_clash}
use Rattle.seats.specs.declared.Seat.{Seat}
use Rattle.seats.specs.Conditions.{not_permitted, off_beacon}
use Rattle.seats.specs.Seats.{is_blank, held, bookings, good_settings, stands, stands_in, is_bare, seat_ok}

pub stands_formed : (case k long short : ℕ) (x : Booking) → stands case k long short x ≡ true → Formed x
unfolding stands
stands_formed case k long short x e = formed x (eqb-true _ _ (and_true (eqb (form_of x) 0) (not (not_permitted long short x) && not (off_beacon case k x)) e).0)

-- ---- in order by neighbours and without a clash: of any two the first comes before the second, and they do not clash
chain_order : (l : List Booking) → chain comes l ≡ pairs comes l
chain_order l = chain_pairs comes (λ x. true) (λ x y z px py pz p q. comes_trans x y z p q) l (every_true l)

two_in_one : (l : List Booking) → (pairs comes l && pairs no_clash l) ≡ pairs fine l
unfolding fine
two_in_one l = sym (pairs_both comes no_clash l)

-- ---- the tests of a seat's bookings, of its summary and of the places behind
turned : (a p m c b : Bool) → ((a && ((p && m) && c)) && b) ≡ (a && ((c && p) && (b && m)))
turned false p m c b = refl
turned true false m false b = refl
turned true false m true b = refl
turned true true false false b = refl
turned true true false true true = refl
turned true true false true false = refl
turned true true true false b = refl
turned true true true true true = refl
turned true true true true false = refl

module _ (s : Seat) where
  abbrev row_tests : Bool
  row_tests =
      every (stands_in s) (bookings s)
      && ((pairs no_clash (bookings s) && matches same_slot s.slots (summary_of (bookings s))) && chain comes (bookings s))

  in_order : (chain comes (bookings s) && pairs no_clash (bookings s)) ≡ pairs fine (bookings s)
  in_order = ap (λ (o : Bool). o && pairs no_clash (bookings s)) (chain_order (bookings s)) ∙ two_in_one (bookings s)

  all_tests : (row_tests && every is_blank (drop (held s) s.row))
      ≡ (every (stands_in s) (bookings s) && (pairs fine (bookings s) && (every is_blank (drop (held s) s.row) && matches same_slot s.slots (summary_of (bookings s)))))
  all_tests =
      turned (every (stands_in s) (bookings s)) (pairs no_clash (bookings s)) (matches same_slot s.slots (summary_of (bookings s))) (chain comes (bookings s))
      (every is_blank (drop (held s) s.row))
      ∙ ap (λ (o : Bool). every (stands_in s) (bookings s) && (o && (every is_blank (drop (held s) s.row) && matches same_slot s.slots (summary_of (bookings s))))) in_order

  -- bare, good, row and rest are what the tests gave
  pub seat_tested : (bare good row rest : Bool) → bare ≡ is_bare s → good ≡ good_settings s → row ≡ row_tests → rest ≡ every is_blank (drop (held s) s.row)
      → ((bare || (s.live && good)) && (leb s.count 40 && (row && rest))) ≡ seat_ok s
  unfolding seat_ok
  seat_tested bare good row rest eb eg er et =
      rw (eb, eg, er, et, all_tests)

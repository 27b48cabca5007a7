-- The conditions of a seat, one by one; and of a seat that meets them, a booking's test against what is kept of its timeslot is its clash with some booking of the seat.
-- Cited by the crates plans and book_tables. Assumes nothing.
use mathlib.Core.Path.{◌≡◌, sym, ap, ◌∙◌}
use mathlib.Core.Bool.{true, false, not, ◌&&◌, ◌||◌}
use mathlib.Core.List.{List}
use Prim.Native.Nat.{◌≤◌}
use lib.Dec.{leb}
use lib.ListN.{drop, get_or}
use borrow.Author.Tests.{leb-true, le-leb, ltb-false}
use Rattle.laws.specs.Lists.{every, pairs, matches}
use Rattle.laws.proofs.Bools.{and_true}
use Rattle.laws.proofs.Lists.{every_weaker}
use Rattle.laws.proofs.Matches.{matches_equal, matches_self, pairs_both}
use Rattle.laws.proofs.Some.{some_every}
use Rattle.conditions.specs.Conditions.{bad_timeslot, bad_code}
use Rattle.bookings.specs.declared.Booking.{Booking}
use Rattle.bookings.specs.Bookings.{clash, comes, fine}
use Rattle.slots.specs.declared.Slot.{Slot}
use Rattle.slots.specs.Slots.{same_slot, summary_of}
use Rattle.slots.specs.Inside.{no_slot, hits_with}
use Rattle.slots.proofs.ByMasks.{good_code, no_clash, hits_clash}
use Rattle.slots.proofs.Summary.{summary_at, same_only, same_self}
use Rattle.seats.specs.declared.Seat.{Seat}
use Rattle.seats.specs.Conditions.{clashes_with}
use Rattle.seats.specs.Seats.{is_blank, held, bookings, good_settings, stands_in, is_bare, seat_ok}
use Rattle.seats.proofs.Tested.{stands_formed}

pub record Sound (s : Seat) : Type 0 where
  pub closed_or_good : (is_bare s || (s.live && good_settings s)) ≡ true
  pub few : s.count ≤ 40
  pub standing : every (stands_in s) (bookings s) ≡ true
  pub ordered : pairs fine (bookings s) ≡ true
  pub rest_blank : every is_blank (drop (held s) s.row) ≡ true
  pub agrees : s.slots ≡ summary_of (bookings s)

pub sound : (s : Seat) → seat_ok s ≡ true → Sound s
unfolding seat_ok
sound s e =
    let a = and_true (is_bare s || (s.live && good_settings s)) _ e in
    let b = and_true (leb s.count 40) _ a.1 in
    let c = and_true (every (stands_in s) (bookings s)) _ b.1 in
    let d = and_true (pairs fine (bookings s)) _ c.1 in
    let f = and_true (every is_blank (drop (held s) s.row)) (matches same_slot s.slots (summary_of (bookings s))) d.1 in
    record { closed_or_good = a.0; few = leb-true _ _ b.0; standing = c.0; ordered = d.0; rest_blank = f.0; agrees = matches_equal same_slot same_only _ _ f.1 }

pub sound_ok : (s : Seat) → Sound s → seat_ok s ≡ true
unfolding seat_ok
sound_ok s o =
    let same : matches same_slot s.slots (summary_of (bookings s)) ≡ true = rw o.agrees (matches_self same_slot same_self (summary_of (bookings s))) in
    simp (o.closed_or_good, le-leb s.count 40 o.few, o.standing, o.ordered, o.rest_blank, same)

-- ---- a booking against its timeslot: refusal 17
module _ (s : Seat) (ok : seat_ok s ≡ true) where
  codes_good : every good_code (bookings s) ≡ true
  codes_good = every_weaker (stands_in s) good_code (λ x e. ap not (stands_formed s.case s.k s.long s.short x e).code_good) (bookings s) (sound s ok).standing

  pub none_clash : pairs no_clash (bookings s) ≡ true
  unfolding fine
  none_clash =
      let both : (pairs comes (bookings s) && pairs no_clash (bookings s)) ≡ true = sym (pairs_both comes no_clash (bookings s)) ∙ (sound s ok).ordered in
      (and_true (pairs comes (bookings s)) (pairs no_clash (bookings s)) both).1

  pub clash_kept : (x : Booking) → bad_timeslot x.timeslot ≡ false → bad_code x.factor x.index ≡ false
      → hits_with (get_or s.slots x.timeslot no_slot) x ≡ clashes_with (bookings s) x
  unfolding clashes_with bad_timeslot
  clash_kept x low good =
      ap (λ (w : List Slot). hits_with (get_or w x.timeslot no_slot) x) (sound s ok).agrees
      ∙ ap (λ (v : Slot). hits_with v x) (summary_at (bookings s) no_slot x.timeslot (ltb-false 14 x.timeslot low))
      ∙ hits_clash x (bookings s) good codes_good none_clash ∙ some_every (clash x) (bookings s)

-- What a call whose table begins with another's knows of its own: where that part refuses, and where it does not. Cited by the proofs of check_open and check_booking.
-- Assumes nothing.
use mathlib.Core.Path.{◌≡◌, refl, sym, ◌∙◌}
use mathlib.Core.Bool.{Bool, true, false, not, ◌&&◌}
use mathlib.Core.List.{◌++◌}
use Prim.Native.Nat.{ℕ}
use lib.Dec.{T, eqb, leb}
use lib.ListN.{get_or}
use Rattle.refusals.specs.declared.Refusal.{Refusal}
use Rattle.refusals.specs.Refusals.{Refusals, first_of, number_of}
use Rattle.refusals.proofs.First.{numbered, first_none, append_passes}
use Rattle.refusals.proofs.Tests.{gives_behind}
use Rattle.conditions.specs.Conditions.{bad_timeslot, bad_code}
use Rattle.tables.specs.Tables.{settings_refusals}
use Rattle.bookings.specs.declared.Booking.{Booking}
use Rattle.slots.specs.Inside.{no_slot, hits_with}
use Rattle.seats.specs.declared.Seat.{Seat}
use Rattle.seats.specs.Conditions.{not_permitted, clashes_with, off_beacon}
use Rattle.seats.specs.Seats.{held, bookings, seat_ok}
use Rattle.seats.proofs.Sound.{clash_kept}
use Rattle.book_tables.specs.Inside.{own_rows, seat_rows, booking_rows}

-- ---- the settings first
module _ (cell case k long short : ℕ) where
  settings_numbered : T (numbered (settings_refusals cell case k long short))
  unfolding settings_refusals
  settings_numbered = tt

  pub settings_refused : (u : Refusals) (r : Refusal) → number_of r ≡ first_of (settings_refusals cell case k long short)
      → first_of (settings_refusals cell case k long short ++ u) ≡ number_of r
  settings_refused u r e = sym (gives_behind (settings_refusals cell case k long short) u r e)

  pub settings_passed : (u : Refusals) → 0 ≡ first_of (settings_refusals cell case k long short)
      → first_of (settings_refusals cell case k long short ++ u) ≡ first_of u
  settings_passed u e = append_passes (settings_refusals cell case k long short) u settings_numbered (sym e)

-- what the search is handed
pub ruleset settings_steps = (settings_refused, settings_passed)

-- ---- the book and the seat first
module _ (ok : Bool) (used seat : ℕ) (s : Seat) (x : Booking) where
  abbrev own : Refusals
  own = own_rows (not_permitted s.long s.short x) (clashes_with (bookings s) x) (off_beacon s.case s.k x) (eqb (held s) 40) (leb 10 (held s) && eqb used 80)

  joined : first_of (seat_rows ok seat s.live ++ own) ≡ first_of (booking_rows ok used seat s x)
  unfolding seat_rows own_rows booking_rows
  joined = refl

  seat_numbered : T (numbered (seat_rows ok seat s.live))
  unfolding seat_rows
  seat_numbered = tt

  pub seat_refused : (r : Refusal) → number_of r ≡ first_of (seat_rows ok seat s.live) → number_of r ≡ first_of (booking_rows ok used seat s x)
  seat_refused r e = gives_behind (seat_rows ok seat s.live) own r e ∙ joined

  module _ (passed : 0 ≡ first_of (seat_rows ok seat s.live)) where
    good_book : ok ≡ true
    unfolding seat_rows
    good_book = not_bad ok (first_none 11 (not ok) _ (sym passed)).0
      where
        not_bad : (b : Bool) → not b ≡ false → b ≡ true
        not_bad true e = refl
        not_bad false e = sym e

    -- of a book that meets its conditions, what is kept of a timeslot is what its bookings say
    pub own_told : (ok ≡ true → seat_ok s ≡ true) → bad_timeslot x.timeslot ≡ false → bad_code x.factor x.index ≡ false
        → (n : ℕ) (barred clash off out : Bool) → n ≡ held s → barred ≡ not_permitted s.long s.short x → clash ≡ hits_with (get_or s.slots x.timeslot no_slot) x
        → off ≡ off_beacon s.case s.k x → out ≡ (leb 10 n && eqb used 80)
        → first_of (own_rows barred clash off (eqb n 40) out) ≡ first_of (booking_rows ok used seat s x)
    own_told good low code n barred clash off out en ea ec eo eu =
        rw (ea, ec ∙ clash_kept s (good good_book) x low code, eo, eu, en)
        (sym (append_passes (seat_rows ok seat s.live) own seat_numbered (sym passed)) ∙ joined)

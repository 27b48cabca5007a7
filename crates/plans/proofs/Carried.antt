-- What the code makes of a seat when it carries a booking into its row or out of it, over plain values. Cited by Plans, and by with_booking's and without_at's proofs.
-- Assumes nothing.
use mathlib.Core.Path.{◌≡◌, ap, ◌∙◌}
use mathlib.Core.List.{List, [], ◌∷◌, ◌++◌}
use Prim.Native.Nat.{ℕ, ◌+◌, ◌-◌, ◌≤◌}
use native.Mathlib.Omega.{arith}
use lib.ListN.{take, set, get_or, length-take}
use Rattle.laws.specs.Lists.{insert_at, remove_at}
use Rattle.laws.proofs.Rows.{count_le}
use Rattle.bookings.specs.declared.Booking.{Booking}
use Rattle.slots.specs.declared.Slot.{Slot}
use Rattle.slots.specs.Inside.{no_slot, joined_with}
use Rattle.seats.specs.declared.Seat.{Seat}
use Rattle.bookings.specs.Bookings.{comes}
use Rattle.seats.specs.Seats.{blank, held, bookings, rank}

-- the settings of s, with another count, row and summary
abbrev pub kept : Seat → ℕ → List Booking → List Slot → Seat
kept s m r w = record { live = s.live; cell = s.cell; case = s.case; k = s.k; long = s.long; short = s.short; count = m; row = r; slots = w }

-- the seat with x carried into its row, and with the one at place p carried out of it, where its timeslot says v then
unfoldable pub put_in : Seat → Booking → Seat
put_in s x =
    kept s (held s + 1) (take 40 (insert_at (rank x (bookings s)) x s.row)) (set s.slots x.timeslot (joined_with (get_or s.slots x.timeslot no_slot) x))

unfoldable pub taken_out : Seat → ℕ → Slot → Seat
taken_out s p v = kept s (held s - 1) (remove_at p (s.row ++ blank ∷ [])) (set s.slots (get_or s.row p blank).timeslot v)

pub rank_high : (x : Booking) (n : ℕ) (l : List Booking) → rank x (take n l) ≤ n
unfolding rank
rank_high x n l = omega (arith, count_le (λ y. comes y x) (take n l), length-take n l)

pub carried_in : (s : Seat) (x : Booking) (n p : ℕ) (r : List Booking) (v : Slot) → n ≡ held s → p ≡ rank x (bookings s) → r ≡ take 40 (insert_at p x s.row)
    → v ≡ joined_with (get_or s.slots x.timeslot no_slot) x → kept s (n + 1) r (set s.slots x.timeslot v) ≡ put_in s x
unfolding put_in
carried_in s x n p r v en place er ev =
    let slots = set s.slots x.timeslot v in
    ap (λ (m : ℕ). kept s (m + 1) r slots) en
    ∙ ap (λ (l : List Booking). kept s (held s + 1) l slots) (er ∙ ap (λ (q : ℕ). take 40 (insert_at q x s.row)) place)
    ∙ ap (λ (t : Slot). kept s (held s + 1) (take 40 (insert_at (rank x (bookings s)) x s.row)) (set s.slots x.timeslot t)) ev

pub carried_out : (s : Seat) (n p : ℕ) (b : Booking) (r : List Booking) (v : Slot) → n ≡ held s → b ≡ blank → r ≡ remove_at p (s.row ++ b ∷ [])
    → kept s (n - 1) r (set s.slots (get_or s.row p blank).timeslot v) ≡ taken_out s p v
unfolding taken_out
carried_out s n p b r v en eb er =
    let slots = set s.slots (get_or s.row p blank).timeslot v in
    ap (λ (m : ℕ). kept s (m - 1) r slots) en ∙ ap (λ (l : List Booking). kept s (held s - 1) l slots) (er ∙ ap (λ (y : Booking). remove_at p (s.row ++ y ∷ [])) eb)

-- Nothing is lost between two calls: a book that is written as bytes and read again is the same book. Cited by no proof: it is for the reader of the promises.
-- Assumes nothing.
use mathlib.Core.Path.{◌≡◌, refl, ap, ◌∙◌}
use mathlib.Core.Bool.{Bool, true, false, not}
use mathlib.Core.List.{List, [], ◌∷◌, map}
use Prim.Native.Nat.{ℕ, ◌+◌, ◌*◌, ◌/◌, ◌%◌}
use native.Mathlib.Omega.{arith}
use lib.Dec.{eqb, ltb}
use Rattle.std.specs.Prelude.{Option, None, Some}
use Rattle.laws.specs.Lists.{one, every}
use Rattle.laws.proofs.Lists.{both}
use Rattle.conditions.specs.declared.Direction.{Direction}
use Rattle.conditions.specs.declared.Direction.TheVariants.{Up, Down}
use Rattle.bookings.specs.declared.Booking.{Booking}
use Rattle.slots.specs.declared.Slot.{Slot}
use Rattle.seats.specs.declared.Seat.{Seat}
use Rattle.classbook.specs.declared.Book.{Book}
use Rattle.mqarbset_book.specs.Mirror.{neither, read_direction, read_booking, read_way, read_slot, read_seat, proper_booking, proper_slot, proper_seat, proper, read_book}
use Rattle.mqarbset_book.specs.Mirror.{write_direction, write_booking, write_way, write_slot, write_seat, write_book}

module _ {A B : Type 0} (g : A → B) where
  map_kept : (f : B → A) → ((x : A) → f (g x) ≡ x) → (l : List A) → map f (map g l) ≡ l
  map_kept f h [] = refl
  map_kept f h (x ∷ l) = ap (λ (y : A). y ∷ map f (map g l)) (h x) ∙ ap (λ (r : List A). x ∷ r) (map_kept f h l)

  map_passes : (p : B → Bool) → ((x : A) → p (g x) ≡ true) → (l : List A) → every p (map g l) ≡ true
  unfolding every
  map_passes p h [] = refl
  map_passes p h (x ∷ l) = both _ _ (h x) (map_passes p h l)

-- ---- what is written is proper

direction_proper : (d : Direction) → not (neither (write_direction d)) ≡ true
unfolding neither write_direction
direction_proper Up = refl
direction_proper Down = refl

live_proper : (b : Bool) → not (neither (one b)) ≡ true
unfolding neither
live_proper true = refl
live_proper false = refl

booking_proper : (x : Booking) → proper_booking (write_booking x) ≡ true
unfolding write_booking
booking_proper x = direction_proper x.direction

way_proper : (w : Option Direction) → not (ltb 2 (write_way w)) ≡ true
unfolding write_way
way_proper (Some Up) = refl
way_proper (Some Down) = refl
way_proper None = refl

slot_proper : (x : Slot) → proper_slot (write_slot x) ≡ true
unfolding write_slot
slot_proper x = both _ _ (way_proper x.way) (live_proper x.second)

seat_proper : (s : Seat) → proper_seat (write_seat s) ≡ true
unfolding proper_seat write_seat
seat_proper s =
    both _ _ (both _ _ (live_proper s.live) (map_passes write_booking proper_booking booking_proper s.row)) (map_passes write_slot proper_slot slot_proper s.slots)

pub written_proper : (b : Book) → proper (write_book b) ≡ true
unfolding proper write_book
written_proper b = map_passes write_seat proper_seat seat_proper b.seats

-- ---- and is read as it was

direction_kept : (d : Direction) → read_direction (write_direction d) ≡ d
unfolding read_direction write_direction
direction_kept Up = refl
direction_kept Down = refl

live_kept : (b : Bool) → eqb (one b) 1 ≡ b
live_kept true = refl
live_kept false = refl

booking_kept : (x : Booking) → read_booking (write_booking x) ≡ x
unfolding read_booking write_booking
booking_kept x = simp (direction_kept x.direction)

way_kept : (w : Option Direction) → read_way (write_way w) ≡ w
unfolding read_way write_way
way_kept (Some Up) = refl
way_kept (Some Down) = refl
way_kept None = refl

pattern_kept : (n : ℕ) → n % 256 + n / 256 * 256 ≡ n
pattern_kept n = omega arith

slot_kept : (x : Slot) → read_slot (write_slot x) ≡ x
unfolding read_slot write_slot
slot_kept x = simp (pattern_kept x.leaves, way_kept x.way, live_kept x.second)

seat_kept : (s : Seat) → read_seat (write_seat s) ≡ s
unfolding read_seat write_seat
seat_kept s = simp (live_kept s.live, map_kept write_booking read_booking booking_kept s.row, map_kept write_slot read_slot slot_kept s.slots)

pub kept : (b : Book) → read_book (write_book b) ≡ b
unfolding read_book write_book
kept b = simp (written_proper b) (ap (λ (l : List Seat). record { seats = l }) (map_kept write_seat read_seat seat_kept b.seats))

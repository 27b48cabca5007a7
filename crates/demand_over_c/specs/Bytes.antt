-- A book over C byte by byte, in the order in which memory holds it: its structs are of bytes only,
-- so no gap lies between two. Cited by specs/DemandOverC.antt and proofs/Untouched.antt.
-- Assumes nothing.
use Rattle.std.specs.Prelude.{◌≡◌, Bool, true, List, [], ◌∷◌, ◌++◌, ℕ, ◌*◌, eqb, ltb, length, take, drop}
use Rattle.laws.specs.Lists.{every}
use Rattle.mqarbset_book.specs.declared.MqBooking.{MqBooking}
use Rattle.mqarbset_book.specs.declared.MqSlot.{MqSlot}
use Rattle.mqarbset_book.specs.declared.MqSeat.{MqSeat}
use Rattle.mqarbset_book.specs.declared.MqBook.{MqBook}

-- one after the other
unfoldable pub joined : {A : Type 0} → (A → List ℕ) → List A → List ℕ
joined f [] = []
joined f (x ∷ l) = f x ++ joined f l

-- the eight bytes of a booking
unfoldable pub booking_bytes : MqBooking → List ℕ
booking_bytes x =
    x.timeslot ∷ x.direction ∷ x.burst ∷ x.factor ∷
    x.index ∷ x.user ∷ x.tfci ∷ x.tpc ∷ []

-- the five bytes of what is kept of a timeslot
unfoldable pub slot_bytes : MqSlot → List ℕ
slot_bytes x = x.low ∷ x.high ∷ x.way ∷ x.count ∷ x.second ∷ []

-- the bytes of a seat: seven, its forty places and its fifteen timeslots, which makes 402
unfoldable pub seat_bytes : MqSeat → List ℕ
seat_bytes s =
    s.live ∷ s.cell ∷ s.case ∷ s.k ∷ s.long ∷ s.short ∷ s.count ∷
    joined booking_bytes s.row ++ joined slot_bytes s.slots

-- those of a book: sixteen seats
unfoldable pub book_bytes : MqBook → List ℕ
book_bytes m = joined seat_bytes m.seats

-- the part of them that is seat j's; nothing above 15
unfoldable pub part_of : MqBook → ℕ → List ℕ
part_of m j = take 402 (drop (402 * j) (book_bytes m))

-- a pattern's low byte is one: below 256
abbrev pub low_byte : MqSlot → Bool
low_byte x = ltb x.low 256

-- what its type says of every book that a caller can hand in: sixteen seats, each of forty places
-- and fifteen timeslots, and the low byte of each pattern is a byte
pub record Whole (m : MqBook) : Type 0 where
  pub sixteen : length m.seats ≡ 16
  pub forty : every (λ (s : MqSeat). eqb (length s.row) 40) m.seats ≡ true
  pub fifteen : every (λ (s : MqSeat). eqb (length s.slots) 15) m.seats ≡ true
  pub low_bytes : every (λ (s : MqSeat). every low_byte s.slots) m.seats ≡ true

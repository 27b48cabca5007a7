-- Where the bytes of one seat lie in a book: blocks of one width, one after the other. Cited by
-- Untouched and DemandOverC. Assumes nothing.
use mathlib.Core.Path.{◌≡◌, refl, sym, ap, ◌∙◌}
use mathlib.Core.Bool.{Bool, true}
use mathlib.Core.List.{List, [], ◌∷◌, ◌++◌, map}
use Prim.Native.Nat.{ℕ, zero, suc, ◌+◌, ◌*◌, ◌%◌}
use native.Mathlib.Nat.{mul-zero, mul-suc}
use native.Mathlib.Omega.{arith}
use lib.Dec.{eqb}
use lib.ListN.{length, take, drop, get_or, length-append, length-map, get_or-map}
use lib.Seq.{take_at, drop-append-add}
use borrow.Author.Tests.{eq-eqb, eqb-true, lt-ltb}
use Rattle.laws.specs.Lists.{every}
use Rattle.laws.proofs.Lists.{both}
use Rattle.slots.specs.declared.Slot.{Slot}
use Rattle.slots.specs.Slots.{summary_of}
use Rattle.slots.specs.Inside.{no_slot}
use Rattle.slots.proofs.Summary as summary
use Rattle.seats.specs.Seats.{blank, closed, bookings}
use Rattle.seats.proofs.Sound.{sound}
use Rattle.classbook.specs.declared.Book.{Book}
use Rattle.classbook.specs.Book.{seat_of}
use Rattle.classbook.proofs.Passed.{any_seat_good}
use Rattle.demand.proofs.Seats.{every_place}
use Rattle.demand.proofs.Books.{Good}
use Rattle.mqarbset_book.specs.declared.MqBooking.{MqBooking}
use Rattle.mqarbset_book.specs.declared.MqSlot.{MqSlot}
use Rattle.mqarbset_book.specs.declared.MqSeat.{MqSeat}
use Rattle.mqarbset_book.specs.declared.MqBook.{MqBook}
use Rattle.mqarbset_book.specs.Mirror.{write_booking, write_slot, write_seat, write_book}
use Rattle.demand_over_c.specs.Bytes.{joined, booking_bytes, slot_bytes, seat_bytes, book_bytes}
use Rattle.demand_over_c.specs.Bytes.{part_of, low_byte, Whole}

-- ---- blocks f x of w bytes, d standing where there is none
module _ {A : Type 0} (f : A → List ℕ) (w : ℕ) (d : A) where
  abbrev Wide : List A → Type 0
  Wide l = (j : ℕ) → length (f (get_or l j d)) ≡ w

  joined_length : (l : List A) → Wide l → length (joined f l) ≡ w * length l
  unfolding joined
  joined_length [] h = sym (mul-zero w)
  joined_length (x ∷ l) h =
      let later = joined_length l (λ j. h (suc j)) in
      omega (arith, length-append (f x) (joined f l), h 0, later, mul-suc w (length l))

  -- behind the first block
  drop_block : (p q : List ℕ) (j : ℕ) → length p ≡ w → drop (w * suc j) (p ++ q) ≡ drop (w * j) q
  drop_block p q j e = ap (λ (n : ℕ). drop n (p ++ q)) count ∙ drop-append-add p q (w * j)
    where
      count : w * suc j ≡ length p + w * j
      count = omega (arith, mul-suc w j, e)

  front_block : (p q : List ℕ) → length p ≡ w → take w (drop (w * zero) (p ++ q)) ≡ p
  front_block p q e = ap (λ (n : ℕ). take w (drop n (p ++ q))) (mul-zero w) ∙ take_at p q w e

  -- two rows that show the same at a place have the same bytes there
  part_same : (l l' : List A) (j : ℕ)
      → Wide l → Wide l' → length l ≡ length l' → get_or l j d ≡ get_or l' j d
      → take w (drop (w * j) (joined f l)) ≡ take w (drop (w * j) (joined f l'))
  unfolding joined
  part_same [] [] j h h' s e = refl
  part_same [] (y ∷ l') j h h' s e = absurd (omega (arith, s))
  part_same (x ∷ l) [] j h h' s e = absurd (omega (arith, s))
  part_same (x ∷ l) (y ∷ l') zero h h' s e =
      front_block (f x) (joined f l) (h 0) ∙ ap f e ∙ sym (front_block (f y) (joined f l') (h' 0))
  part_same (x ∷ l) (y ∷ l') (suc j) h h' s e =
      ap (take w) (drop_block (f x) (joined f l) j (h 0))
      ∙ part_same l l' j (λ k. h (suc k)) (λ k. h' (suc k)) (omega (arith, s)) e
      ∙ ap (take w) (sym (drop_block (f y) (joined f l') j (h' 0)))

-- what is passed at every place is passed by each
every_shown : {A : Type 0} (p : A → Bool) (d : A) (l : List A)
    → ((j : ℕ) → p (get_or l j d) ≡ true) → every p l ≡ true
unfolding every
every_shown p d [] h = refl
every_shown p d (x ∷ l) h = both (p x) (every p l) (h 0) (every_shown p d l (λ j. h (suc j)))

-- ---- seats of forty places and fifteen timeslots
abbrev forty : MqSeat → Bool
forty s = eqb (length s.row) 40

abbrev fifteen : MqSeat → Bool
fifteen s = eqb (length s.slots) 15

abbrev low_seat : MqSeat → Bool
low_seat s = every low_byte s.slots

row_length : (l : List MqBooking) → length (joined booking_bytes l) ≡ 8 * length l
unfolding booking_bytes
row_length l = joined_length booking_bytes 8 (write_booking blank) l (λ j. refl)

slots_length : (l : List MqSlot) → length (joined slot_bytes l) ≡ 5 * length l
unfolding slot_bytes
slots_length l = joined_length slot_bytes 5 (write_slot no_slot) l (λ j. refl)

seat_length : (s : MqSeat)
    → length s.row ≡ 40 → length s.slots ≡ 15 → length (seat_bytes s) ≡ 402
unfolding seat_bytes
seat_length s h k =
    let row = joined booking_bytes s.row in
    let slots = joined slot_bytes s.slots in
    omega (arith, length-append row slots, row_length s.row, slots_length s.slots, h, k)

-- the bytes of a book, all: as many as MQ_BOOK_BYTES of include/mqarbset.h says
pub book_length : (m : MqBook) → Whole m → length (book_bytes m) ≡ 6432
unfolding book_bytes write_seat closed summary_of
book_length m w =
    omega (arith, joined_length seat_bytes 402 (write_seat closed) m.seats wide, w.sixteen)
  where
    row : (j : ℕ) → eqb (length (get_or m.seats j (write_seat closed)).row) 40 ≡ true
    row j = every_place forty m.seats j (write_seat closed) refl w.forty

    slots : (j : ℕ) → eqb (length (get_or m.seats j (write_seat closed)).slots) 15 ≡ true
    slots j = every_place fifteen m.seats j (write_seat closed) refl w.fifteen

    wide : Wide seat_bytes 402 (write_seat closed) m.seats
    wide j =
        seat_length (get_or m.seats j (write_seat closed)) (eqb-true _ 40 (row j))
        (eqb-true _ 15 (slots j))

-- a pattern is written with a low byte
written_low : (l : List Slot) → every low_byte (map write_slot l) ≡ true
unfolding every write_slot
written_low [] = refl
written_low (x ∷ l) = both _ _ (lt-ltb (x.leaves % 256) 256 (omega arith)) (written_low l)

-- the sixteen seats of a book that meets its sizes and its conditions, as they are written
module _ (b : Book) (g : Good b) where
  written_at : (j : ℕ) → get_or (write_book b).seats j (write_seat closed) ≡ write_seat (seat_of b j)
  unfolding write_book seat_of
  written_at j = get_or-map write_seat b.seats j closed

  written_row : (j : ℕ) → length (write_seat (seat_of b j)).row ≡ 40
  unfolding write_seat
  written_row j = length-map (seat_of b j).row write_booking ∙ g.wide j

  -- a seat that meets its conditions keeps what its bookings say of fifteen timeslots
  written_slots : (j : ℕ) → length (write_seat (seat_of b j)).slots ≡ 15
  unfolding write_seat
  written_slots j =
      let s = seat_of b j in
      length-map s.slots write_slot
      ∙ ap (λ (l : List Slot). length l) (sound s (any_seat_good b j g.sixteen g.ok)).agrees
      ∙ summary.fifteen (bookings s)

  written_wide : Wide seat_bytes 402 (write_seat closed) (write_book b).seats
  written_wide j =
      ap (λ (s : MqSeat). length (seat_bytes s)) (written_at j)
      ∙ seat_length (write_seat (seat_of b j)) (written_row j) (written_slots j)

  written_sixteen : length (write_book b).seats ≡ 16
  unfolding write_book
  written_sixteen = length-map b.seats write_seat ∙ g.sixteen

  -- written they have the sizes of their type
  pub written_whole : Whole (write_book b)
  unfolding write_seat
  written_whole =
      record {
        sixteen = written_sixteen;
        forty = every_shown forty (write_seat closed) (write_book b).seats row;
        fifteen = every_shown fifteen (write_seat closed) (write_book b).seats slots;
        low_bytes = every_shown low_seat (write_seat closed) (write_book b).seats low;
      }
    where
      row : (j : ℕ) → eqb (length (get_or (write_book b).seats j (write_seat closed)).row) 40 ≡ true
      row j = eq-eqb _ 40 (ap (λ (s : MqSeat). length s.row) (written_at j) ∙ written_row j)

      slots : (j : ℕ)
          → eqb (length (get_or (write_book b).seats j (write_seat closed)).slots) 15 ≡ true
      slots j =
          eq-eqb _ 15 (ap (λ (s : MqSeat). length s.slots) (written_at j) ∙ written_slots j)

      low : (j : ℕ) → low_seat (get_or (write_book b).seats j (write_seat closed)) ≡ true
      low j = ap low_seat (written_at j) ∙ written_low (seat_of b j).slots

-- two such books with the same seat j have the same bytes there
pub same_part : (b c : Book) → Good b → Good c → (j : ℕ)
    → seat_of b j ≡ seat_of c j → part_of (write_book b) j ≡ part_of (write_book c) j
unfolding part_of book_bytes
same_part b c g h j e =
    part_same seat_bytes 402 (write_seat closed) (write_book b).seats (write_book c).seats j
    (written_wide b g)
    (written_wide c h)
    (written_sixteen b g ∙ sym (written_sixteen c h))
    (written_at b g j ∙ ap write_seat e ∙ sym (written_at c h j))

-- Of proper bytes, of the sizes of their type, nothing is lost: read as a book and written again
-- they are the same bytes. The other way round is `kept` of mqarbset_book/proofs/Kept.antt. Cited
-- by Untouched. Assumes nothing.
use mathlib.Core.Path.{◌≡◌, refl, sym, ap, ◌∙◌}
use mathlib.Core.Logic.{⊎_elim}
use mathlib.Core.Bool.{Bool, true, false, cond, not, ◌&&◌}
use mathlib.Core.List.{List, [], ◌∷◌, map}
use Prim.Native.Nat.{ℕ, ◌+◌, ◌*◌, ◌/◌, ◌%◌, ◌<◌}
use native.Mathlib.Omega.{arith}
use lib.Dec.{eqb, ltb}
use borrow.Author.Tests.{eqb-true, eqb-false, ltb-true, ltb-false, not-true}
use Rattle.laws.specs.Lists.{one, every}
use Rattle.laws.proofs.Bools.{and_true}
use Rattle.laws.proofs.Lists.{by_cases, both, hd, tl}
use Rattle.conditions.specs.declared.Direction.TheVariants.{Up, Down}
use Rattle.std.specs.Prelude.{Some, None}
use Rattle.mqarbset_book.specs.declared.MqBooking.{MqBooking}
use Rattle.mqarbset_book.specs.declared.MqSlot.{MqSlot}
use Rattle.mqarbset_book.specs.declared.MqSeat.{MqSeat}
use Rattle.mqarbset_book.specs.declared.MqBook.{MqBook}
use Rattle.mqarbset_book.specs.Mirror.{neither, read_direction, read_booking, read_way, read_slot}
use Rattle.mqarbset_book.specs.Mirror.{read_seat, proper_booking, proper_slot, proper_seat, proper}
use Rattle.mqarbset_book.specs.Mirror.{read_book, write_direction, write_booking, write_way, write_slot, write_seat}
use Rattle.mqarbset_book.specs.Mirror.{write_book}
use Rattle.demand_over_c.specs.Bytes.{low_byte, Whole}

-- what passes each of two tests passes both
every_both : {A : Type 0} (p q : A → Bool) (l : List A)
    → every p l ≡ true → every q l ≡ true → every (λ (x : A). p x && q x) l ≡ true
unfolding every
every_both p q [] e f = refl
every_both p q (x ∷ l) e f =
    both _ _ (both _ _ (hd p x l e) (hd q x l f)) (every_both p q l (tl p x l e) (tl q x l f))

map_back : {A B : Type 0} (f : A → B) (g : B → A) (p : A → Bool)
    → ((x : A) → p x ≡ true → g (f x) ≡ x) → (l : List A) → every p l ≡ true → map g (map f l) ≡ l
map_back f g p h [] e = refl
map_back {A} f g p h (x ∷ l) e =
    ap (λ (y : A). y ∷ map g (map f l)) (h x (hd p x l e))
    ∙ ap (λ (r : List A). x ∷ r) (map_back f g p h l (tl p x l e))

-- a byte that is 0 or 1, and is not 1
zero_or_one : (v : ℕ) → not (neither v) ≡ true → eqb v 1 ≡ false → v ≡ 0
unfolding neither
zero_or_one v p f = omega (arith, ltb-false 1 v (not-true (ltb 1 v) p), eqb-false v 1 f)

direction_back : (d : ℕ) → not (neither d) ≡ true → write_direction (read_direction d) ≡ d
unfolding read_direction write_direction
direction_back d p =
    ⊎_elim
    (λ t. ap (λ (b : Bool). write_direction (cond b Down Up)) t ∙ sym (eqb-true d 1 t))
    (λ f. ap (λ (b : Bool). write_direction (cond b Down Up)) f ∙ sym (zero_or_one d p f))
    (by_cases (eqb d 1))

live_back : (v : ℕ) → not (neither v) ≡ true → one (eqb v 1) ≡ v
live_back v p =
    ⊎_elim
    (λ t. ap one t ∙ sym (eqb-true v 1 t))
    (λ f. ap one f ∙ sym (zero_or_one v p f))
    (by_cases (eqb v 1))

booking_back : (x : MqBooking) → proper_booking x ≡ true → write_booking (read_booking x) ≡ x
unfolding read_booking write_booking
booking_back x p = simp (direction_back x.direction p)

-- a byte that is 0, 1 or 2; up and down say whether it is 1 and whether it is 2
way_by : (w : ℕ) (up down : Bool) → eqb w 1 ≡ up → eqb w 2 ≡ down → not (ltb 2 w) ≡ true
    → write_way (cond up (Some Up) (cond down (Some Down) None)) ≡ w
unfolding write_way
way_by w true down e f p = sym (eqb-true w 1 e)
way_by w false true e f p = sym (eqb-true w 2 f)
way_by w false false e f p =
    omega (arith, ltb-false 2 w (not-true (ltb 2 w) p), eqb-false w 1 e, eqb-false w 2 f)

way_back : (w : ℕ) → not (ltb 2 w) ≡ true → write_way (read_way w) ≡ w
unfolding read_way
way_back w p = way_by w (eqb w 1) (eqb w 2) refl refl p

low_back : (a b : ℕ) → a < 256 → (a + b * 256) % 256 ≡ a
low_back a b h = omega arith

high_back : (a b : ℕ) → a < 256 → (a + b * 256) / 256 ≡ b
high_back a b h = omega arith

abbrev sound_slot : MqSlot → Bool
sound_slot x = proper_slot x && low_byte x

slot_back : (x : MqSlot) → sound_slot x ≡ true → write_slot (read_slot x) ≡ x
unfolding read_slot write_slot
slot_back x p =
    let parts = and_true (proper_slot x) (low_byte x) p in
    let few = and_true (not (ltb 2 x.way)) (not (neither x.second)) parts.0 in
    let low = ltb-true x.low 256 parts.1 in
    simp (
      low_back x.low x.high low,
      high_back x.low x.high low,
      way_back x.way few.0,
      live_back x.second few.1,
    )

abbrev low_seat : MqSeat → Bool
low_seat s = every low_byte s.slots

abbrev sound_seat : MqSeat → Bool
sound_seat s = proper_seat s && low_seat s

seat_back : (s : MqSeat) → sound_seat s ≡ true → write_seat (read_seat s) ≡ s
unfolding read_seat write_seat proper_seat
seat_back s p =
    let parts = and_true (proper_seat s) (low_seat s) p in
    let held = not (neither s.live) && every proper_booking s.row in
    let of-seat = and_true held (every proper_slot s.slots) parts.0 in
    let front = and_true (not (neither s.live)) (every proper_booking s.row) of-seat.0 in
    let sure = every_both proper_slot low_byte s.slots of-seat.1 parts.1 in
    let row = map_back read_booking write_booking proper_booking booking_back s.row front.1 in
    let slots = map_back read_slot write_slot sound_slot slot_back s.slots sure in
    simp (live_back s.live front.0, row, slots)

pub written_back : (m : MqBook) → proper m ≡ true → Whole m → write_book (read_book m) ≡ m
unfolding read_book write_book proper
written_back m p w =
    let sure = every_both proper_seat low_seat m.seats p w.low_bytes in
    let all = map_back read_seat write_seat sound_seat seat_back m.seats sure in
    simp p (ap (λ (l : List MqSeat). record { seats = l }) all)

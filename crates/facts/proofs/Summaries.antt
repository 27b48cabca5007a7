-- Document 02, C-16, "Free codes at a glance": the kept summary is what the bookings say after every
-- call; a book whose summary disagrees is refused at every call; one seat is seen at a time; and
-- the direction told is that of each booking. No function's proof cites it: it is for the reader.
-- Assumes nothing.
use mathlib.Core.Path.{◌≡◌, refl, sym, ap, ◌∙◌}
use mathlib.Core.Logic.{⊎_elim}
use mathlib.Core.Bool.{Bool, true, false, cond, not, xor, ◌&&◌, or-true}
use mathlib.Core.List.{List, [], ◌∷◌, ◌++◌}
use Prim.Native.Nat.{ℕ, zero, suc, ◌≤◌, ◌<◌}
use native.Mathlib.Nat.{not-suc-le-zero, le_of_suc-le-suc}
use native.Mathlib.Omega.{arith}
use lib.Dec.{leb}
use lib.ListN.{length, get_or}
use Rattle.std.specs.Prelude.{Some}
use borrow.Author.Tests.{leb-true, eqb-true, eq-eqb, not-true}
use Rattle.laws.specs.Lists.{every, some, pairs, matches}
use Rattle.laws.proofs.Bools.{true_false, and_true}
use Rattle.laws.proofs.Cases.{by_cases}
use Rattle.laws.proofs.Lists.{hd, tl, every_at}
use Rattle.laws.proofs.Matches.{matches_self}
use Rattle.laws.proofs.Some.{some_alike}
use Rattle.refusals.specs.Refusals.{Refusals, first_of, answer}
use Rattle.conditions.specs.declared.Direction.TheVariants.{Up, Down}
use Rattle.conditions.specs.Conditions.{is_down, bad_timeslot, bad_code}
use Rattle.tables.specs.Tables.{form_refusals, settings_refusals}
use Rattle.bookings.specs.declared.Booking.{Booking}
use Rattle.bookings.specs.Bookings.{clash}
use Rattle.bookings.proofs.Clash.{clash_turn, beside}
use Rattle.slots.specs.declared.Slot.{Slot}
use Rattle.slots.specs.Slots.{is_in, way_in, same_slot, slot_of, summary_of}
use Rattle.slots.proofs.ByMasks.{no_clash}
use Rattle.slots.proofs.Summary.{same_self}
use Rattle.seats.specs.Seats.{bookings, summary_agrees}
use Rattle.seats.proofs.Sound.{sound, none_clash}
use Rattle.classbook.specs.declared.Book.{Book}
use Rattle.classbook.specs.declared.Request.{Request}
use Rattle.classbook.specs.Book.{Plan, plan_of, seat_of, book_ok}
use Rattle.classbook.specs.Conditions.{bad_book, bad_seat, not_open}
use Rattle.classbook.specs.Calls.{open_refusals, open_answer, request_refusals, book_refusals}
use Rattle.classbook.specs.Calls.{booking_refusals, book_answer, cancel_refusals, cancel_answer}
use Rattle.classbook.specs.Calls.{seat_refusals, close_answer}
use Rattle.classbook.proofs.Passed.{named_seat_good}
use Rattle.classbook.proofs.Valid.{Sized, open_kept, book_kept, cancel_kept, close_kept}
use Rattle.listing.specs.Listing.{list_refusals}
use Rattle.summaries.specs.Summaries.{summary_refusals, glance_of, summary_answer}

-- ---- "It must equal what the bookings themselves say after open, book, cancel and close"

-- in a book that meets its conditions, of every seat
pub kept_agrees : (b : Book) → book_ok b ≡ true → (i : ℕ)
    → (seat_of b i).slots ≡ summary_of (bookings (seat_of b i))
kept_agrees b ok i = (sound (seat_of b i) (named_seat_good b i ok)).agrees

-- and so after each call, refused or not
module _ (b : Book) (sized : Sized b) (ok : book_ok b ≡ true) (i : ℕ) where
  abbrev Agrees : Book → Type 0
  Agrees c = (seat_of c i).slots ≡ summary_of (bookings (seat_of c i))

  pub open_agrees : (seat cell case k long short : ℕ)
      → Agrees (open_answer b seat cell case k long short).book
  open_agrees seat cell case k long short =
      kept_agrees _ (open_kept b sized ok seat cell case k long short) i

  pub book_agrees : (seat : ℕ) (x : Request) → Agrees (book_answer b seat x).book
  book_agrees seat x = kept_agrees _ (book_kept b sized ok seat x) i

  pub cancel_agrees : (seat timeslot factor index : ℕ)
      → Agrees (cancel_answer b seat timeslot factor index).book
  cancel_agrees seat timeslot factor index =
      kept_agrees _ (cancel_kept b sized ok seat timeslot factor index) i

  pub close_agrees : (seat : ℕ) → Agrees (close_answer b seat).book
  close_agrees seat = kept_agrees _ (close_kept b sized ok seat) i

-- ---- "A book whose summary disagrees breaks its conditions."
pub disagrees : (b : Book) (i : ℕ) → summary_agrees (seat_of b i) ≡ false → book_ok b ≡ false
disagrees b i f = ⊎_elim (λ t. true_false (sym (agreed t) ∙ f)) (λ e. e) (by_cases (book_ok b))
  where
    agreed : book_ok b ≡ true → summary_agrees (seat_of b i) ≡ true
    agreed t =
        let l = summary_of (bookings (seat_of b i)) in
        ap (λ (w : List Slot). matches same_slot w l) (kept_agrees b t i)
        ∙ matches_self same_slot same_self l

-- a table with a row for 12 that holds, and none but lower numbers before it
abbrev low : ℕ × Bool → Bool
low row = leb 1 row.0 && leb row.0 12

abbrev Refused : Refusals → Type 0
Refused t = (1 ≤ first_of t) × (first_of t ≤ 12)

twelve : (t u : Refusals) → every low t ≡ true → Refused (t ++ (12, true) ∷ u)
unfolding first_of
twelve [] u e = (omega arith, omega arith)
twelve ((n, true) ∷ t) u e =
    let p = and_true (leb 1 n) (leb n 12) (hd low (n, true) t e) in
    (leb-true 1 n p.0, leb-true n 12 p.1)
twelve ((n, false) ∷ t) u e = twelve t u (tl low (n, false) t e)

-- so every call on it is refused, by 12 or by a lower number of its own
module _ (b : Book) (broken : book_ok b ≡ false) (seat : ℕ) where
  bad : bad_book b ≡ true
  unfolding bad_book
  bad = ap not broken

  pub open_refused : (cell case k long short : ℕ)
      → Refused (open_refusals b seat cell case k long short)
  unfolding open_refusals settings_refusals every
  open_refused cell case k long short = rw bad (twelve (settings_refusals cell case k _ _) _ refl)

  pub book_refused : (x : Request) → Refused (book_refusals b seat x)
  unfolding book_refusals booking_refusals request_refusals form_refusals every
  book_refused x = rw bad (twelve (request_refusals x) _ refl)

  pub cancel_refused : (timeslot factor index : ℕ)
      → Refused (cancel_refusals b seat timeslot factor index)
  unfolding cancel_refusals every
  cancel_refused timeslot factor index =
      rw bad (twelve ((5, bad_timeslot timeslot) ∷ (6, bad_code factor index) ∷ []) _ refl)

  pub close_refused : Refused (seat_refusals b seat)
  unfolding seat_refusals every
  close_refused = rw bad (twelve [] _ refl)

  pub list_refused : (lent : List Booking) → Refused (list_refusals b seat lent)
  unfolding list_refusals seat_refusals every
  list_refused lent = rw bad (twelve ((11, _) ∷ []) _ refl)

  pub summary_refused : (timeslot : ℕ) → Refused (summary_refusals b seat timeslot)
  unfolding summary_refusals seat_refusals every
  summary_refused timeslot = rw bad (twelve ((5, bad_timeslot timeslot) ∷ []) _ refl)

-- ---- "The screen asks one seat at a time, and sees nothing of another."
module _ (b c : Book) (okb : book_ok b ≡ true) (okc : book_ok c ≡ true) (seat : ℕ) where
  -- two books with the same plan of that seat answer alike, whatever the others hold
  pub one_seat : plan_of (seat_of b seat) ≡ plan_of (seat_of c seat)
      → (timeslot : ℕ) → summary_answer b seat timeslot ≡ summary_answer c seat timeslot
  unfolding plan_of summary_answer summary_refusals seat_refusals bad_book not_open
  one_seat same timeslot =
      rw (okb, okc)
      (ap (λ (p : Plan).
      answer (first_of ((5, bad_timeslot timeslot) ∷ (12, false) ∷ (13, bad_seat seat) ∷ (14, not p.live) ∷ []))
      (glance_of (slot_of timeslot p.list))) same)

-- ---- "the direction": of each booking of the timeslot, since none of them clash
some_at : (f : Booking → Bool) (l : List Booking) (p : ℕ) (d : Booking) → p < length l
    → f (get_or l p d) ≡ true → some f l ≡ true
unfolding some
some_at f [] p d h e = absurd (not-suc-le-zero h)
some_at f (y ∷ l) zero d h e = rw e
some_at f (y ∷ l) (suc p) d h e = rw (some_at f l p d (le_of_suc-le-suc h) e) (or-true (f y))

beside_false : (v : Bool) → xor v false ≡ v
unfolding xor
beside_false true = refl
beside_false false = refl

self_alike : (v : Bool) → xor v v ≡ false
unfolding xor
self_alike true = refl
self_alike false = refl

abbrev goes : Booking → Bool
goes y = is_down y.direction

module _ (t : ℕ) where
  abbrev other : Bool → Booking → Bool
  other v y = is_in t y && xor (goes y) v

  -- one of t goes the way of each that it does not clash with
  alike : (x y : Booking) → is_in t x ≡ true → no_clash x y ≡ true → other (goes x) y ≡ false
  alike x y h n = ⊎_elim here (λ (f : is_in t y ≡ false). simp f) (by_cases (is_in t y))
    where
      here : is_in t y ≡ true → other (goes x) y ≡ false
      here e =
          let s : x.timeslot ≡ y.timeslot = eqb-true _ _ h ∙ sym (eqb-true _ _ e) in
          let same = (beside x y (not-true (clash x y) n) s).same in
          simp (e, sym same, self_alike (goes x))

  all_alike : (x : Booking) (l : List Booking) → is_in t x ≡ true → every (no_clash x) l ≡ true
      → some (other (goes x)) l ≡ false
  unfolding some
  all_alike x [] h e = refl
  all_alike x (y ∷ l) h e =
      simp (alike x y h (hd (no_clash x) y l e), all_alike x l h (tl (no_clash x) y l e))

  none_differs : (l : List Booking) (p : ℕ) (d : Booking) → p < length l → pairs no_clash l ≡ true
      → is_in t (get_or l p d) ≡ true → some (other (goes (get_or l p d))) l ≡ false
  unfolding some pairs
  none_differs [] p d h free e = absurd (not-suc-le-zero h)
  none_differs (y ∷ l) zero d h free e =
      let o = (and_true (every (no_clash y) l) (pairs no_clash l) free).0 in
      simp (e, self_alike (goes y), all_alike y l e o)
  none_differs (y ∷ l) (suc p) d h free e =
      let o = and_true (every (no_clash y) l) (pairs no_clash l) free in
      let low = le_of_suc-le-suc h in
      let x = get_or l p d in
      let apart : no_clash x y ≡ true =
      ap not (clash_turn x y) ∙ every_at (no_clash y) l p d low o.0 in
      simp (alike x y e apart, none_differs l p d low o.1 e)

  told : (l : List Booking) (p : ℕ) (d : Booking) → p < length l → pairs no_clash l ≡ true
      → is_in t (get_or l p d) ≡ true → way_in t l ≡ cond (goes (get_or l p d)) (Some Down) (Some Up)
  unfolding way_in
  told l p d h free e = ⊎_elim down up (by_cases (goes (get_or l p d)))
    where
      there : some (is_in t) l ≡ true
      there = some_at (is_in t) l p d h e

      down : goes (get_or l p d) ≡ true → way_in t l ≡ cond (goes (get_or l p d)) (Some Down) (Some Up)
      down g = simp (some_at (λ y. is_in t y && goes y) l p d h (rw e g), g)

      up : goes (get_or l p d) ≡ false → way_in t l ≡ cond (goes (get_or l p d)) (Some Down) (Some Up)
      up g =
          let none : some (λ y. is_in t y && goes y) l ≡ false =
          some_alike (λ y. is_in t y && goes y) (other (goes (get_or l p d))) l
          (λ y. ap (λ (v : Bool). is_in t y && v) (sym (rw g (beside_false (goes y)))))
          ∙ none_differs l p d h free e in
          simp (none, there, g)

-- so in a book that meets its conditions
pub direction_told : (b : Book) → book_ok b ≡ true → (i t p : ℕ) (d : Booking)
    → p < length (bookings (seat_of b i)) → (get_or (bookings (seat_of b i)) p d).timeslot ≡ t
    → (slot_of t (bookings (seat_of b i))).way
    ≡ cond (is_down (get_or (bookings (seat_of b i)) p d).direction) (Some Down) (Some Up)
unfolding slot_of
direction_told b ok i t p d h e =
    told t (bookings (seat_of b i)) p d h (none_clash (seat_of b i) (named_seat_good b i ok)) (eq-eqb _ t e)

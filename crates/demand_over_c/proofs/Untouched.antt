-- What a call over C does not touch, whatever the bytes: every byte of every other seat; a refused
-- call leaves every byte (`refused_leaves` of Step). Cited by DemandOverC. Assumes nothing.
use mathlib.Core.Path.{◌≡◌, refl, sym, ap, ◌∙◌}
use mathlib.Core.Logic.{⊎_elim}
use mathlib.Core.Bool.{Bool, true, false}
use mathlib.Core.List.{List, [], ◌∷◌, map}
use Prim.Native.Nat.{ℕ}
use lib.Dec.{eqb}
use lib.ListN.{length, get_or, length-map}
use borrow.Author.Tests.{eqb-true, eqb-false}
use Rattle.laws.specs.Lists.{every}
use Rattle.laws.proofs.Bools.{true_false}
use Rattle.laws.proofs.Lists.{by_cases, both, hd, tl}
use Rattle.refusals.specs.Refusals.{first_of}
use Rattle.refusals.proofs.First.{first_none}
use Rattle.conditions.specs.Conditions.{bad_timeslot}
use Rattle.seats.specs.declared.Seat.{Seat}
use Rattle.seats.specs.Seats.{closed}
use Rattle.classbook.specs.declared.Book.{Book}
use Rattle.classbook.specs.Book.{seat_of, book_ok}
use Rattle.classbook.specs.Calls.{open_answer, book_answer, cancel_answer, seat_refusals, close_answer}
use Rattle.classbook.proofs.Passed.{open_passed, book_passed, cancel_passed, seat_passed}
use Rattle.listing.specs.Listing.{few_records, list_refusals}
use Rattle.summaries.specs.Summaries.{summary_refusals}
use Rattle.demand.specs.Lesson.{Call, opens, books, cancels, closes, lists, glances, reply}
use Rattle.demand.specs.Lesson.{number_of, next}
use Rattle.demand.proofs.Seats.{every_place}
use Rattle.demand.proofs.Own.{list_number, summary_number}
use Rattle.demand.proofs.Books.{Good, next_good, next_apart}
use Rattle.mqarbset_book.specs.declared.MqSeat.{MqSeat}
use Rattle.mqarbset_book.specs.declared.MqBook.{MqBook}
use Rattle.mqarbset_book.specs.Mirror.{proper, read_booking, read_seat, read_book, write_book}
use Rattle.mqarbset_book.proofs.Damaged.{damaged}
use Rattle.demand_over_c.specs.Bytes.{part_of, Whole}
use Rattle.demand_over_c.specs.LessonOverC.{CallOverC, reply_over_c, refusal_of, next_over_c}
use Rattle.demand_over_c.specs.ByValue.{asked}
use Rattle.demand_over_c.proofs.Mirrored.{written_back}
use Rattle.demand_over_c.proofs.Step.{reads_next, again_next, refused_leaves, same_refusal}
use Rattle.demand_over_c.proofs.Parts.{same_part}

-- a call that is not refused was asked of a book that meets its conditions
accepted_ok : (b : Book) (i : ℕ) (c : Call) → number_of (reply b i c) ≡ 0 → book_ok b ≡ true
unfolding reply number_of open_answer book_answer cancel_answer close_answer list_refusals summary_refusals
accepted_ok b i (opens cell case k long short) z = (open_passed b i cell case k long short z).valid
accepted_ok b i (books x) z = (book_passed b i x z).booking.valid
accepted_ok b i (cancels timeslot factor index) z = (cancel_passed b i timeslot factor index z).valid
accepted_ok b i closes z = (seat_passed b i z).valid
accepted_ok b i (lists lent) z = (seat_passed b i (seat_part (sym (list_number b i lent) ∙ z))).valid
  where
    seat_part : first_of (list_refusals b i lent) ≡ 0 → first_of (seat_refusals b i) ≡ 0
    seat_part e = (first_none 10 (few_records lent) (seat_refusals b i) e).1
accepted_ok b i (glances timeslot) z =
    (seat_passed b i (seat_part (sym (summary_number b i timeslot) ∙ z))).valid
  where
    seat_part : first_of (summary_refusals b i timeslot) ≡ 0 → first_of (seat_refusals b i) ≡ 0
    seat_part e = (first_none 4 (bad_timeslot timeslot) (seat_refusals b i) e).1

-- forty places in each seat that the bytes say
module _ (m : MqBook) (p : proper m ≡ true) (w : Whole m) where
  said_seats : (read_book m).seats ≡ map read_seat m.seats
  unfolding read_book
  said_seats = rw p

  abbrev forty : Seat → Bool
  forty s = eqb (length s.row) 40

  abbrev forty_c : MqSeat → Bool
  forty_c s = eqb (length s.row) 40

  rows_forty : (l : List MqSeat) → every forty_c l ≡ true → every forty (map read_seat l) ≡ true
  unfolding every read_seat
  rows_forty [] e = refl
  rows_forty (s ∷ l) e = both _ _ row (rows_forty l (tl forty_c s l e))
    where
      row : forty (read_seat s) ≡ true
      row =
          ap (λ (n : ℕ). eqb n 40) (length-map s.row read_booking) ∙ hd forty_c s l e

  said_wide : (j : ℕ) → length (seat_of (read_book m) j).row ≡ 40
  unfolding seat_of closed
  said_wide j =
      let rows = rows_forty m.seats w.forty in
      let e = every_place forty (map read_seat m.seats) j closed refl rows in
      ap (λ (l : List Seat). length (get_or l j closed).row) said_seats ∙ eqb-true _ 40 e

  said_good : book_ok (read_book m) ≡ true → Good (read_book m)
  said_good ok =
      record {
        ok = ok;
        sixteen = ap length said_seats ∙ length-map m.seats read_seat ∙ w.sixteen;
        wide = said_wide;
      }

-- a call over C leaves every byte of every other seat
module _ (m : MqBook) (w : Whole m) (i : ℕ) (c : CallOverC) (j : ℕ) (apart : j ≡ i → ⊥) where
  said_ok : refusal_of (reply_over_c m i c) ≡ 0 → book_ok (read_book m) ≡ true
  said_ok z = accepted_ok (read_book m) i (asked c) (sym (same_refusal m i c) ∙ z)

  accepted : refusal_of (reply_over_c m i c) ≡ 0 → proper m ≡ true
      → part_of (next_over_c m i c) j ≡ part_of m j
  accepted z p =
      let b = read_book m in
      let after = next b i (asked c) in
      let g = said_good m p w (said_ok z) in
      let again = written_back m p w in
      ap (λ (n : MqBook). part_of n j) (sym (again_next m i c again))
      ∙ ap (λ (d : Book). part_of (write_book d) j) (reads_next m i c)
      ∙ same_part after b (next_good b i (asked c) g) g j (next_apart b i (asked c) j apart)
      ∙ ap (λ (n : MqBook). part_of n j) again

  refused : (refusal_of (reply_over_c m i c) ≡ 0 → ⊥) → part_of (next_over_c m i c) j ≡ part_of m j
  refused h = ap (λ (n : MqBook). part_of n j) (refused_leaves m i c h)

  damaged_refused : proper m ≡ false → refusal_of (reply_over_c m i c) ≡ 0 → ⊥
  damaged_refused f z = true_false (sym (said_ok z) ∙ damaged m f)

  pub others_untouched : part_of (next_over_c m i c) j ≡ part_of m j
  others_untouched =
      ⊎_elim
      (λ t.
      ⊎_elim (accepted (eqb-true _ 0 t)) (λ f. refused (damaged_refused f)) (by_cases (proper m)))
      (λ f. refused (eqb-false _ 0 f))
      (by_cases (eqb (refusal_of (reply_over_c m i c)) 0))

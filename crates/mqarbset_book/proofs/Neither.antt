-- A booking whose direction is neither up nor down: the call of the library, asked with a factor that is none, is refused as the table over C says, with 6 at 6's
-- place. Cited by the proof of `mq_book_value`. Assumes nothing.
use mathlib.Core.Path.{◌≡◌, refl, sym, ap, ◌∙◌}
use mathlib.Core.Bool.{Bool, true, false, cond}
use Prim.Native.Nat.{ℕ}
use Rattle.refusals.specs.Refusals.{first_of, after}
use Rattle.conditions.specs.Conditions.{bad_type, bad_booked_user, bad_timeslot, bad_factor, bad_code}
use Rattle.tables.specs.Tables.{form_refusals}
use Rattle.classbook.specs.declared.Book.{Book}
use Rattle.classbook.specs.declared.Request.{Request}
use Rattle.classbook.specs.Calls.{as_booking, request_refusals, book_refusals, booked, with_book, book_answer}
use Rattle.mqarbset_book.specs.declared.MqBook.{MqBook}
use Rattle.mqarbset_book.specs.Mirror.{neither, read_direction}
use Rattle.mqarbset_book.specs.Inside.{factor_beside}
use Rattle.mqarbset_book.specs.Calls.{handed_back, booking_over_c, book_refusals_over_c, book_answer_over_c}

-- the number of a call that is refused at 6 at the latest
abbrev at_six : Bool → Bool → Bool → ℕ
at_six two four five = cond two 2 (cond four 4 (cond five 5 6))

-- such a call hands the caller's bytes back, whatever it would have made
by_number : (two four five : Bool) (b : MqBook) (c made made' : Book) → handed_back b (with_book (at_six two four five) c made) ≡ handed_back b (with_book (at_six two four five) c made')
unfolding handed_back after
by_number true four five b c made made' = refl
by_number false true five b c made made' = refl
by_number false false true b c made made' = refl
by_number false false false b c made made' = refl

-- the request that the library is asked
abbrev pub request : ℕ → ℕ → ℕ → ℕ → ℕ → ℕ → ℕ → ℕ → Request
request timeslot direction burst factor index user tfci tpc =
    record {
      timeslot = timeslot;
      direction = read_direction direction;
      burst = burst;
      factor = factor_beside direction factor;
      index = index;
      user = user;
      tfci = tfci;
      tpc = tpc;
    }

module _ (b : MqBook) (c : Book) (seat timeslot direction burst factor index user tfci tpc : ℕ) where
  abbrev asked : Request
  asked = request timeslot direction burst factor index user tfci tpc

  abbrev six : ℕ
  six = at_six (bad_type burst) (bad_booked_user burst user) (bad_timeslot timeslot)

  library_number : neither direction ≡ true → first_of (book_refusals c seat asked) ≡ six
  unfolding book_refusals request_refusals form_refusals factor_beside bad_code bad_factor first_of
  library_number e = simp e

  table_number : neither direction ≡ true → first_of (book_refusals_over_c c seat timeslot direction burst factor index user tfci tpc) ≡ six
  unfolding book_refusals_over_c first_of
  table_number e = simp e

  by_direction : (n : Bool) → neither direction ≡ n
      → handed_back b (book_answer c seat asked) ≡ handed_back b (book_answer_over_c c seat timeslot direction burst factor index user tfci tpc)
  unfolding book_answer book_refusals request_refusals form_refusals as_booking factor_beside book_answer_over_c book_refusals_over_c booking_over_c first_of
  by_direction true e =
      let made = booked c seat (as_booking asked) in
      let made' = booked c seat (booking_over_c timeslot direction burst factor index user tfci tpc) in
      ap (λ (n : ℕ). handed_back b (with_book n c made)) (library_number e)
      ∙ by_number (bad_type burst) (bad_booked_user burst user) (bad_timeslot timeslot) b c made made'
      ∙ ap (λ (n : ℕ). handed_back b (with_book n c made')) (sym (table_number e))
  by_direction false e = simp e

  pub book_over : handed_back b (book_answer c seat (request timeslot direction burst factor index user tfci tpc)) ≡ handed_back b (book_answer_over_c c seat timeslot direction burst factor index user tfci tpc)
  book_over = by_direction (neither direction) refl

-- A call as its caller's own seat decides it: its refusals, its reply and the seat that it makes depend on the rest of the book in two truth values only,
-- whether the book breaks its conditions and whether the common room is used up. Cited by the other files here. Assumes nothing.
use mathlib.Core.Path.{◌≡◌, refl, sym, ap, subst, ◌∙◌}
use mathlib.Core.Logic.{⊎_elim}
use mathlib.Core.Bool.{Bool, not}
use mathlib.Core.List.{List, [], ◌∷◌, ◌++◌}
use Prim.Native.Nat.{ℕ}
use lib.Dec.{eqb}
use lib.ListN.{length, drop}
use lib.Seq.{set-get_or}
use borrow.Author.Tests.{eqb-true, eqb-false}
use Rattle.laws.proofs.Lists.{by_cases}
use Rattle.refusals.specs.Refusals.{Refusals, ◌leaving◌, first_of, answer, after}
use Rattle.refusals.proofs.First.{answer_refused, answer_answered, after_refused, after_answered}
use Rattle.bookings.specs.declared.Booking.{Booking}
use Rattle.seats.specs.declared.Seat.{Seat}
use Rattle.conditions.specs.Conditions.{bad_timeslot, bad_code}
use Rattle.tables.specs.Tables.{settings_refusals}
use Rattle.seats.specs.Conditions.{not_permitted, clashes_with, off_beacon}
use Rattle.seats.specs.Seats.{closed, bookings, insert, without, with_plan}
use Rattle.classbook.specs.declared.Book.{Book}
use Rattle.classbook.specs.Book.{seat_of, with_seat}
use Rattle.classbook.specs.Conditions.{bad_book, bad_seat, not_open, is_open, seat_full, room_used_up, none_named}
use Rattle.classbook.specs.Calls.{long_count, short_count, open_seat, open_refusals, open_answer, as_booking, request_refusals, booking_refusals, book_refusals, booked, book_answer, cancel_refusals, cancelled, cancel_answer, seat_refusals, close_answer}
use Rattle.listing.specs.Listing.{few_records, list_refusals, list_outcome}
use Rattle.slots.specs.Slots.{slot_of}
use Rattle.summaries.specs.declared.Glance.{Glance}
use Rattle.summaries.specs.Summaries.{summary_refusals, glance_of, summary_answer}
use Rattle.demand.specs.Lesson.{Call, opens, books, cancels, closes, lists, glances, Reply, number, listed, summed, reply, number_of, next}

-- ---- the refusals: bad says whether the book breaks its conditions, full whether the common room is used up for the seat s

-- those of a booking but the last
abbrev pub book_table : Bool → Seat → ℕ → Booking → Refusals
book_table bad s i x =
    (12, bad) ∷ (13, bad_seat i) ∷ (14, not s.live) ∷ (16, not_permitted s.long s.short x) ∷ (17, clashes_with (bookings s) x) ∷
    (18, off_beacon s.case s.k x) ∷ (19, seat_full s) ∷ []

abbrev pub table : Bool → Bool → Seat → ℕ → Call → Refusals
table bad full s i (opens cell case k long short) = settings_refusals cell case k (long_count long) (short_count short) ++ (12, bad) ∷ (13, bad_seat i) ∷ (15, s.live) ∷ []
table bad full s i (books x) = request_refusals x ++ (book_table bad s i (as_booking x) ++ (20, full) ∷ [])
table bad full s i (cancels timeslot factor index) =
    (5, bad_timeslot timeslot) ∷ (6, bad_code factor index) ∷ (12, bad) ∷ (13, bad_seat i) ∷ (14, not s.live) ∷ (21, none_named s timeslot factor index) ∷ []
table bad full s i closes = (12, bad) ∷ (13, bad_seat i) ∷ (14, not s.live) ∷ []
table bad full s i (lists lent) = (11, few_records lent) ∷ (12, bad) ∷ (13, bad_seat i) ∷ (14, not s.live) ∷ []
table bad full s i (glances timeslot) = (5, bad_timeslot timeslot) ∷ (12, bad) ∷ (13, bad_seat i) ∷ (14, not s.live) ∷ []

-- the number that a list's outcome carries is that of its first refusal
outcome_number : (n m : ℕ) (records : List Booking) → number_of (listed (answer n m leaving records)) ≡ n
unfolding number_of
outcome_number n m records =
    ⊎_elim
    (λ t. ap (λ a. number_of (listed (a leaving records))) (answer_answered n m (eqb-true n 0 t)) ∙ sym (eqb-true n 0 t))
    (λ f. ap (λ a. number_of (listed (a leaving records))) (answer_refused n m (eqb-false n 0 f)))
    (by_cases (eqb n 0))

pub list_number : (b : Book) (i : ℕ) (lent : List Booking) → number_of (listed (list_outcome b i lent)) ≡ first_of (list_refusals b i lent)
unfolding list_outcome
list_number b i lent =
    let n = first_of (list_refusals b i lent) in
    let l = bookings (seat_of b i) in
    outcome_number n (length l) (after n lent (l ++ drop (length l) lent))

-- and that of a summary's answer
answer_number : (n : ℕ) (g : Glance) → number_of (summed (answer n g)) ≡ n
unfolding number_of
answer_number n g =
    ⊎_elim
    (λ t. ap (λ a. number_of (summed a)) (answer_answered n g (eqb-true n 0 t)) ∙ sym (eqb-true n 0 t))
    (λ f. ap (λ a. number_of (summed a)) (answer_refused n g (eqb-false n 0 f)))
    (by_cases (eqb n 0))

pub summary_number : (b : Book) (i timeslot : ℕ) → number_of (summed (summary_answer b i timeslot)) ≡ first_of (summary_refusals b i timeslot)
unfolding summary_answer
summary_number b i timeslot = answer_number (first_of (summary_refusals b i timeslot)) (glance_of (slot_of timeslot (bookings (seat_of b i))))

-- what a call is refused with
pub number_own : (b : Book) (i : ℕ) (c : Call) → number_of (reply b i c) ≡ first_of (table (bad_book b) (room_used_up b (seat_of b i)) (seat_of b i) i c)
unfolding reply number_of open_answer open_refusals is_open book_answer book_refusals booking_refusals not_open cancel_answer cancel_refusals close_answer seat_refusals list_outcome list_refusals summary_refusals
number_own b i (opens cell case k long short) = refl
number_own b i (books x) = refl
number_own b i (cancels timeslot factor index) = refl
number_own b i closes = refl
number_own b i (lists lent) = list_number b i lent
number_own b i (glances timeslot) = summary_number b i timeslot

-- ---- the reply to a call that is refused n, or not refused where n is 0
abbrev pub told : ℕ → Seat → Call → Reply
told n s (opens cell case k long short) = number n
told n s (books x) = number n
told n s (cancels timeslot factor index) = number n
told n s closes = number n
told n s (lists lent) = listed (answer n (length (bookings s)) leaving after n lent (bookings s ++ drop (length (bookings s)) lent))
told n s (glances timeslot) = summed (answer n (glance_of (slot_of timeslot (bookings s))))

pub reply_own : (b : Book) (i : ℕ) (c : Call) → reply b i c ≡ told (number_of (reply b i c)) (seat_of b i) c
unfolding reply number_of list_outcome summary_answer
reply_own b i (opens cell case k long short) = refl
reply_own b i (books x) = refl
reply_own b i (cancels timeslot factor index) = refl
reply_own b i closes = refl
reply_own b i (lists lent) = ap (λ (n : ℕ). told n (seat_of b i) (lists lent)) (sym (list_number b i lent))
reply_own b i (glances timeslot) = ap (λ (n : ℕ). told n (seat_of b i) (glances timeslot)) (sym (summary_number b i timeslot))

-- ---- the seat that a call makes, where it is not refused
abbrev pub made : Seat → Call → Seat
made s (opens cell case k long short) = open_seat cell case k long short
made s (books x) = with_plan s (insert (as_booking x) (bookings s))
made s (cancels timeslot factor index) = with_plan s (without timeslot factor index (bookings s))
made s closes = closed
made s (lists lent) = s
made s (glances timeslot) = s

-- what holds of the book before, and where the call is not refused of the one that it makes, holds of the book afterwards
pub after_either : (P : Book → Type 0) (n : ℕ) (before made : Book) → (n ≡ 0 → P made) → P before → P (after n before made)
after_either P n before made given kept =
    ⊎_elim
    (λ t. subst P (sym (after_answered n before made (eqb-true n 0 t))) (given (eqb-true n 0 t)))
    (λ f. subst P (sym (after_refused n before made (eqb-false n 0 f))) kept)
    (by_cases (eqb n 0))

-- a seat put where it stands
in_place : (b : Book) (i : ℕ) → with_seat b i (seat_of b i) ≡ b
unfolding with_seat seat_of
in_place b i = ap (λ l. record { seats = l }) (set-get_or b.seats i closed)

unmoved : (n : ℕ) (b : Book) (i : ℕ) → b ≡ after n b (with_seat b i (seat_of b i))
unmoved n b i = after_either (λ (c : Book). b ≡ c) n b (with_seat b i (seat_of b i)) (λ z. sym (in_place b i)) refl

-- a call leaves the book as it is, or with the caller's seat exchanged
pub next_own : (b : Book) (i : ℕ) (c : Call) → next b i c ≡ after (number_of (reply b i c)) b (with_seat b i (made (seat_of b i) c))
unfolding next reply number_of open_answer book_answer booked cancel_answer cancelled close_answer
next_own b i (opens cell case k long short) = refl
next_own b i (books x) = refl
next_own b i (cancels timeslot factor index) = refl
next_own b i closes = refl
next_own b i (lists lent) = unmoved _ b i
next_own b i (glances timeslot) = unmoved _ b i

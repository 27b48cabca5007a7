-- The two lessons of specs/Limits.antt, computed turn by turn from the definitions that the
-- promises cite; the book's conditions are not computed, since a lesson keeps them. Cited by Reached.
-- Assumes nothing.
use mathlib.Core.Path.{◌≡◌, refl, ap, ◌∙◌}
use mathlib.Core.List.{List, [], ◌∷◌, map}
use Prim.Native.Nat.{ℕ}
use mathlib.Core.Bool.{xor}
use Rattle.laws.specs.Lists.{member, every, pairs, total}
use Rattle.refusals.specs.Refusals.{first_of, after}
use Rattle.codes.specs.Codes.{code_of, permitted}
use Rattle.conditions.specs.Conditions.{bad_type, bad_cell, bad_count, bad_user, is_down, bad_factor}
use Rattle.conditions.specs.Conditions.{bad_down_factor, bad_down_type, bad_control, bad_beacon}
use Rattle.conditions.specs.Conditions.{bad_booked_user, bad_timeslot, bad_code}
use Rattle.tables.specs.Tables.{form_refusals, settings_refusals}
use Rattle.beacons.specs.Beacons.{beacons_of, is_beacon}
use Rattle.leaves.specs.Leaves.{leaves_of, first_leaf}
use Rattle.bookings.specs.Bookings.{overlaps, same_direction, mixed}
use Rattle.bookings.specs.Bookings.{clash, comes, beacon_rules, breaks_beacon}
use Rattle.seats.specs.Conditions.{count_for, not_permitted, clashes_with, off_beacon}
use Rattle.seats.specs.declared.Seat.{Seat}
use Rattle.seats.specs.Seats.{closed, held, rank, insert, with_plan}
use Rattle.classbook.specs.declared.Book.{Book}
use Rattle.classbook.specs.Book.{empty_book, seat_of, with_seat, plan_of, common}
use Rattle.classbook.specs.Conditions.{bad_seat, seat_full, room_used_up}
use Rattle.classbook.specs.Calls.{long_count, short_count, open_seat, as_booking, request_refusals}
use Rattle.demand.specs.Lesson.{books, Turn, reply, number_of}
use Rattle.demand.specs.Demand.{holds, book_after}
use Rattle.demand.proofs.Unasked.{number_then, next_then, run_then, book_then, book_unasked, number_unasked}
use Rattle.limits.specs.Limits.{code, booking, taking, tens, three_seats, whole_class, class, Seen, seen}
use Rattle.limits.specs.Limits.{at_three_seats, at_whole_class}

-- what is seen of a book that a lesson has come to
abbrev seen_then : Book → Seen
seen_then b =
    record {
      each = map (λ (i : ℕ). holds b i) class;
      places = total (λ (s : Seat). held s) b.seats;
      beyond = common b;
      one_more = map (λ (i : ℕ). number_then b i (books (code 40))) class;
    }

each_alike : (f g : ℕ → ℕ) → ((i : ℕ) → f i ≡ g i) → (l : List ℕ) → map f l ≡ map g l
each_alike f g h [] = refl
each_alike f g h (i ∷ l) = rw (h i, each_alike f g h l)

seen_then_lem : (ts : List Turn) → seen (book_after ts) ≡ seen_then (book_then ts)
seen_then_lem ts =
    let b = book_after ts in
    ap (λ (l : List ℕ). record { each = map (λ (i : ℕ). holds b i) class; places = total (λ (s : Seat). held s) b.seats; beyond = common b; one_more = l })
    (each_alike (λ i. number_of (reply b i (books (code 40)))) (λ i. number_then (book_then ts) i (books (code 40))) (λ i. number_unasked ts i (books (code 40))) class)
    ∙ ap (λ (d : Book).
    record {
      each = map (λ (i : ℕ). holds d i) class;
      places = total (λ (s : Seat). held s) d.seats;
      beyond = common d;
      one_more = map (λ (i : ℕ). number_then (book_then ts) i (books (code 40))) class;
    }) (book_unasked ts)

-- after the lesson of three seats, and after that of the whole class
worked_out :
    (seen_then (book_then three_seats) ≡ at_three_seats) × (seen_then (book_then whole_class) ≡ at_whole_class)
unfolding member every pairs total first_of after
    code_of permitted bad_type bad_cell bad_count bad_user is_down bad_factor
    bad_down_factor bad_down_type bad_control bad_beacon
    bad_booked_user bad_timeslot bad_code form_refusals settings_refusals beacons_of is_beacon
    leaves_of first_leaf overlaps same_direction mixed xor clash comes beacon_rules breaks_beacon
    count_for not_permitted clashes_with off_beacon closed
    rank insert with_plan empty_book seat_of with_seat plan_of common
    bad_seat seat_full room_used_up
    long_count short_count open_seat
    as_booking request_refusals
    number_then next_then run_then booking taking tens
worked_out = (refl, refl)

pub computed :
    (seen (book_after three_seats) ≡ at_three_seats) × (seen (book_after whole_class) ≡ at_whole_class)
computed = (seen_then_lem three_seats ∙ worked_out.0, seen_then_lem whole_class ∙ worked_out.1)

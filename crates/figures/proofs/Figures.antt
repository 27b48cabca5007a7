-- Document 01: "The starred figures are proved as rows of a single table of the definitions with one claim." The table is specs/Figures.antt; this is the claim, by computation; of the book's conditions a lesson keeps them, so that they are not computed.
-- Assumes nothing.
use mathlib.Core.Path.{◌≡◌, refl, sym, ap, ◌∙◌}
use mathlib.Core.Bool.{xor}
use mathlib.Core.List.{List, [], ◌∷◌, ◌++◌, map, map-append}
use Prim.Native.Nat.{ℕ}
use lib.ListN.{take, replicate}
use Rattle.laws.specs.Runs.{run}
use Rattle.laws.specs.Lists.{member, every, total}
use Rattle.conditions.specs.Conditions.{bad_type, bad_cell, bad_count, bad_user, bad_midamble_chip, too_short, is_down, bad_factor, bad_down_factor, bad_down_type, bad_control, bad_pich, bad_frames, bad_number, bad_beacon, bad_booked_user, bad_timeslot, bad_code}
use Rattle.tables.specs.Tables.{user_refusals, parts_refusals, pich_refusals, form_refusals, settings_refusals}
use Rattle.refusals.specs.Refusals.{first_of, answer, after}
use Rattle.code_text.specs.LongText.{long_text}
use Rattle.code_text.specs.Rows.{long_rows, bit_at}
use Rattle.codes.specs.Codes.{code_of, shift_of, permitted}
use Rattle.elements.specs.Elements.{rows_of, turned, basic, element}
use Rattle.midambles.specs.TrainingSequences.{chip_of, chips_of}
use Rattle.midambles.specs.Calls.{chip_refusals, midamble_refusals, chip_answer, midamble_outcome}
use Rattle.timeslots.specs.Timeslots.{fields, field_length, order, control_chips, chips_of_bits, bits_of_chips, tfci_half, tpc_chips, spans, part_length, part_lengths, seven_parts}
use Rattle.timeslots.specs.Calls.{parts_answer}
use Rattle.paging.specs.Paging.{carrying_of, half_of, place_of}
use Rattle.paging.specs.Calls.{indicator_refusals, indicator_answer}
use Rattle.beacons.specs.Beacons.{beacons_of, is_beacon}
use Rattle.beacons.specs.Calls.{beacon_refusals, beacon_answer}
use Rattle.leaves.specs.Leaves.{leaves_of, first_leaf}
use Rattle.bookings.specs.Bookings.{overlaps, same_direction, mixed, clash, comes, beacon_rules, breaks_beacon}
use Rattle.seats.specs.Conditions.{count_for, not_permitted, clashes_with, off_beacon}
use Rattle.seats.specs.Seats.{blank, closed, rank, insert, with_plan}
use Rattle.classbook.specs.Book.{empty_book, seat_of, with_seat, common}
use Rattle.classbook.specs.Conditions.{bad_seat, seat_full, room_used_up}
use Rattle.classbook.specs.Calls.{long_count, short_count, open_seat, as_booking, request_refusals}
use Rattle.listing.specs.Listing.{few_records}
use Rattle.demand.specs.Lesson.{Call, opens, books, lists, Turn, Reply, number, listed, summed, reply, number_of, next, run_through}
use Rattle.demand.proofs.Unasked.{number_then, next_then, run_then, book_then, number_unasked, reply_unasked}
use Rattle.demand.proofs.Own.{told}
use Rattle.bookings.specs.declared.Booking.{Booking}
use Rattle.figures.specs.Shown as figure
use Rattle.figures.specs.Shown.{given}
use Rattle.figures.specs.Figures.{Row, number_figures, book_figures, figures, request, opening, first_booking, second_booking, list_of_seat3}

-- ---- the figures outside the book
numbers : map (λ (r : Row). r.0) number_figures ≡ map (λ (r : Row). r.1) number_figures
unfolding number_figures run member first_of answer after bad_type
    long_text long_rows bit_at code_of rows_of turned basic element shift_of chip_of chips_of
    permitted bad_cell bad_count bad_user bad_midamble_chip too_short user_refusals chip_refusals midamble_refusals chip_answer midamble_outcome
    is_down bad_factor bad_down_factor bad_down_type bad_control
    fields field_length order control_chips chips_of_bits bits_of_chips tfci_half tpc_chips spans part_length part_lengths seven_parts parts_refusals parts_answer
    carrying_of half_of place_of bad_pich pich_refusals bad_frames bad_number indicator_refusals indicator_answer
    beacons_of bad_beacon beacon_refusals beacon_answer
numbers = refl

-- ---- those of the book, as a lesson of seat 3: its book keeps its conditions, which are not computed
abbrev turn : Call → Turn
turn c = record { seat = 3; call = c }

abbrev opened : Call
opened = opens 0 1 0 0 0

abbrev lesson : List Turn
lesson = turn opened ∷ turn (books (request 2 3 4)) ∷ turn (books (request 0 1 1)) ∷ []

-- what was said of a list
abbrev shown_list : Reply → List ℕ
shown_list (listed o) = figure.listed o
shown_list (number n) = []
shown_list (summed a) = []

abbrev lent : List Booking
lent = replicate 40 blank

abbrev wanted : List ℕ
wanted = given (2 ∷ (0 ∷ 1 ∷ 1 ∷ 16 ∷ 1 ∷ 1 ∷ 0 ∷ 0 ∷ []) ++ (2 ∷ 1 ∷ 1 ∷ 16 ∷ 3 ∷ 4 ∷ 0 ∷ 0 ∷ []))

-- the numbers and the list
abbrev so_far : ℕ → List Turn
so_far n = take n lesson

worked_out : ((number_then (book_then []) 3 opened ≡ 0) × (number_then (book_then (so_far 1)) 3 (books (request 2 3 4)) ≡ 0))
    × ((number_then (book_then (so_far 2)) 3 (books (request 0 1 1)) ≡ 0) × (shown_list (told (number_then (book_then lesson) 3 (lists lent)) (seat_of (book_then lesson) 3) (lists lent)) ≡ wanted))
unfolding member every total first_of answer after bad_type code_of permitted bad_cell bad_count bad_user bad_beacon beacons_of is_beacon
    is_down bad_factor bad_down_factor bad_down_type bad_control
    bad_booked_user bad_timeslot bad_code form_refusals leaves_of first_leaf overlaps same_direction mixed xor clash comes beacon_rules breaks_beacon
    closed settings_refusals count_for not_permitted off_beacon clashes_with rank insert with_plan
    empty_book seat_of with_seat common bad_seat seat_full room_used_up long_count short_count open_seat as_booking request_refusals few_records
    number_then next_then run_then
worked_out = ((refl, refl), (refl, refl))

first : opening.refusal ≡ 0
unfolding opening reply number_of run_through
first = number_unasked [] 3 opened ∙ worked_out.0.0

second : first_booking.refusal ≡ 0
unfolding opening first_booking reply number_of next run_through
second = number_unasked (so_far 1) 3 (books (request 2 3 4)) ∙ worked_out.0.1

third : second_booking.refusal ≡ 0
unfolding opening first_booking second_booking reply number_of next run_through
third = number_unasked (so_far 2) 3 (books (request 0 1 1)) ∙ worked_out.1.0

list : list_of_seat3 ≡ wanted
unfolding opening first_booking second_booking reply next run_through
list = ap shown_list (reply_unasked lesson 3 (lists lent)) ∙ worked_out.1.1

book : map (λ (r : Row). r.0) book_figures ≡ map (λ (r : Row). r.1) book_figures
unfolding book_figures
book = rw (first, second, third, list)

-- ---- the claim
pub starred_figures : map (λ (r : Row). r.0) figures ≡ map (λ (r : Row). r.1) figures
unfolding figures
starred_figures =
    map-append (λ (r : Row). r.0) number_figures book_figures
    ∙ ap (λ (l : List (List ℕ)). l ++ map (λ (r : Row). r.0) book_figures) numbers
    ∙ ap (λ (l : List (List ℕ)). map (λ (r : Row). r.1) number_figures ++ l) book
    ∙ sym (map-append (λ (r : Row). r.1) number_figures book_figures)

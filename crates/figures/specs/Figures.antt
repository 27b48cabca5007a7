-- Document 01, "Figures to check": its starred figures as rows of one table. Left what the definitions give that the calls' promises cite, right what the paper says.
-- That the two columns are equal is the one claim of proofs/Figures.antt. Assumes nothing.
use Rattle.std.specs.Prelude.{List, [], ◌∷◌, ◌++◌, map, ℕ, get_or, take, drop, replicate}
use Rattle.conditions.specs.declared.Direction.TheVariants.{Up, Down}
use Rattle.code_text.specs.Rows.{long_rows}
use Rattle.codes.specs.Codes.{code_of, shift_of}
use Rattle.midambles.specs.Calls.{chip_answer, midamble_outcome}
use Rattle.timeslots.specs.Calls.{parts_answer}
use Rattle.paging.specs.Calls.{indicator_answer}
use Rattle.beacons.specs.Calls.{beacon_answer}
use Rattle.seats.specs.Seats.{blank}
use Rattle.classbook.specs.declared.Request.{Request}
use Rattle.classbook.specs.Book.{empty_book}
use Rattle.classbook.specs.Calls.{BookAnswer, open_answer, book_answer}
use Rattle.listing.specs.Listing.{list_outcome}
use Rattle.figures.specs.Shown.{shown, whether, refusal, given, is_answered, reply, number, all_of, from, starts, data_bits, data2_bits, first_and_last, framed, in_frame, listed}

-- what a definition gives, and what the paper says
abbrev pub Row : Type 0
Row = List ℕ × List ℕ

-- row 0 of the long rows, as its digits
abbrev pub row0 : List ℕ
row0 = get_or long_rows 0 []

-- eight chips, from this one on, of user 8 in cell 0, type 1, count 16; and eight powers of j, none of them refused
abbrev pub chips_from : ℕ → List ℕ
chips_from i = all_of (λ (k : ℕ). shown number (chip_answer 0 1 16 8 k)) (from i 8)

abbrev pub powers : List ℕ → List ℕ
powers l = all_of (λ (p : ℕ). given (number p)) l

-- the shifts of these users: type 1 has count 16, type 2 has count 6
abbrev pub shifts : ℕ → List ℕ → List ℕ
shifts burst users = map (λ (k : ℕ). shift_of (code_of burst) k) users

-- lent memory, more than a midamble needs
abbrev pub six_hundred : List ℕ
six_hundred = replicate 600 0

-- downlink type 1, factor 16, no control: a code's index and a user, in a timeslot
abbrev pub request : ℕ → ℕ → ℕ → Request
request timeslot index user =
    record { timeslot = timeslot; direction = Down; burst = 1; factor = 16; index = index; user = user; tfci = 0; tpc = 0 }

-- "Seat 3, opened with cell 0, counts 0, case 1, k 0, books downlink type 1 (16, 3) user 4 in 2, then (16, 1) user 1 in 0, no control."
-- Settings are handed in as seat, cell, case, k, long count, short count
unfoldable pub opening : BookAnswer
opening = open_answer empty_book 3 0 1 0 0 0

unfoldable pub first_booking : BookAnswer
first_booking = book_answer opening.book 3 (request 2 3 4)

unfoldable pub second_booking : BookAnswer
second_booking = book_answer first_booking.book 3 (request 0 1 1)

-- its list, written into 40 lent records
abbrev pub list_of_seat3 : List ℕ
list_of_seat3 = listed (list_outcome second_booking.book 3 (replicate 40 blank))

-- the figures outside the book
unfoldable pub number_figures : List Row
number_figures =
    -- "Row 0 long begins 8DF6 hex: user 8's first eight chips are 1,0,1,2,1,2,1,0."
    (take 4 row0, 8 ∷ 13 ∷ 15 ∷ 6 ∷ []) ∷
    (chips_from 1, powers (1 ∷ 0 ∷ 1 ∷ 2 ∷ 1 ∷ 2 ∷ 1 ∷ 0 ∷ [])) ∷
    -- "It ends in 4: user 8's chips 453 to 460 are 3,2,1,2,1,0,1,2."
    (drop 113 row0, 4 ∷ []) ∷
    (chips_from 453, powers (3 ∷ 2 ∷ 1 ∷ 2 ∷ 1 ∷ 0 ∷ 1 ∷ 2 ∷ [])) ∷
    -- "Shifts, count 16: users 1, 8, 9, 10, 15, 16: 399, 0, 370, 313, 28, 427."
    (shifts 1 (1 ∷ 8 ∷ 9 ∷ 10 ∷ 15 ∷ 16 ∷ []), 399 ∷ 0 ∷ 370 ∷ 313 ∷ 28 ∷ 427 ∷ []) ∷
    -- "Shifts, count 6: users 1 to 6: 128, 64, 0, 96, 32, 160."
    (shifts 2 (1 ∷ 2 ∷ 3 ∷ 4 ∷ 5 ∷ 6 ∷ []), 128 ∷ 64 ∷ 0 ∷ 96 ∷ 32 ∷ 160 ∷ []) ∷
    -- "User 9 with count 8: 4. User 0: 4. User 16 with count 16: answered.": of one chip, and of a whole midamble
    (whether (chip_answer 0 1 8 9 1), refusal 4) ∷
    (whether (chip_answer 0 1 8 0 1), refusal 4) ∷
    (whether (chip_answer 0 1 16 0 1), refusal 4) ∷
    (whether (chip_answer 0 1 16 16 1), is_answered) ∷
    (whether (reply (midamble_outcome 0 1 8 9 six_hundred)), refusal 4) ∷
    (whether (reply (midamble_outcome 0 1 8 0 six_hundred)), refusal 4) ∷
    (whether (reply (midamble_outcome 0 1 16 0 six_hundred)), refusal 4) ∷
    (whether (reply (midamble_outcome 0 1 16 16 six_hundred)), is_answered) ∷
    -- "Uplink type 1, factor 8, TFCI 16, TPC 2 starts at 0, 912, 976, 1488, 1504, 1568, 2464; data bits 228 and 224."
    (shown starts (parts_answer 1 Up 8 16 2), given (0 ∷ 912 ∷ 976 ∷ 1488 ∷ 1504 ∷ 1568 ∷ 2464 ∷ [])) ∷
    (shown data_bits (parts_answer 1 Up 8 16 2), given (228 ∷ 224 ∷ [])) ∷
    -- "Downlink type 2, factor 16, TFCI 4: data 136 bits a side; second TFCI half at 1360 to 1375." The second half is part 4, counted from 0
    (shown data_bits (parts_answer 2 Down 16 4 0), given (136 ∷ 136 ∷ [])) ∷
    (shown (first_and_last 4) (parts_answer 2 Down 16 4 0), given (1360 ∷ 1375 ∷ [])) ∷
    -- "Uplink type 3, factor 16, TFCI 32, TPC 2: data 2 is 1632 to 2367, 92 bits." Data 2 is part 5
    (shown (first_and_last 5) (parts_answer 3 Up 16 32 2), given (1632 ∷ 2367 ∷ [])) ∷
    (shown data2_bits (parts_answer 3 Up 16 32 2), given (92 ∷ [])) ∷
    -- "Type 1, L 4, F 2, PI 37: frame 1, q 7, bits 28 to 31 and 148 to 151. PI 60: 10."
    (shown framed (indicator_answer 1 4 2 37), given (1 ∷ 7 ∷ 28 ∷ 29 ∷ 30 ∷ 31 ∷ 148 ∷ 149 ∷ 150 ∷ 151 ∷ [])) ∷
    (whether (indicator_answer 1 4 2 60), refusal 10) ∷
    -- "Type 2, L 2, q 67: bits 134, 135, 270, 271."
    (shown in_frame (indicator_answer 2 2 1 67), given (67 ∷ 134 ∷ 135 ∷ 270 ∷ 271 ∷ [])) ∷
    -- "Case 2, k 6: timeslots 6 and 14; k 7: 9. Case 1, k 14: answered."
    (shown (λ l. l) (beacon_answer 2 6), given (6 ∷ 14 ∷ [])) ∷
    (whether (beacon_answer 2 7), refusal 9) ∷
    (whether (beacon_answer 1 14), is_answered) ∷ []

-- those of the book
unfoldable pub book_figures : List Row
book_figures =
    -- Seat 3: the three calls before the list are not refused. "The list is: (0, down, 1, 16, 1, 1, 0, 0), (2, down, 1, 16, 3, 4, 0, 0); count 2."
    (opening.refusal ∷ first_booking.refusal ∷ second_booking.refusal ∷ [], 0 ∷ 0 ∷ 0 ∷ []) ∷
    (list_of_seat3, given (2 ∷ (0 ∷ 1 ∷ 1 ∷ 16 ∷ 1 ∷ 1 ∷ 0 ∷ 0 ∷ []) ++ (2 ∷ 1 ∷ 1 ∷ 16 ∷ 3 ∷ 4 ∷ 0 ∷ 0 ∷ []))) ∷ []

-- the table
unfoldable pub figures : List Row
figures = number_figures ++ book_figures

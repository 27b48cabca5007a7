-- Document 01, "Refusal numbers": the conditions on numbers and on lent memory, 1 to 11 and document 02's 22 and 23, one name for each. Cited by the crate tables and by the calls' tables.
-- Conditions on a seat and on the book (12 to 21) stand in the file of the same name in the crates seats and classbook, 24 on received samples in the crate samples. Assumes nothing.
use Rattle.std.specs.Prelude.{Bool, true, false, cond, not, ◌&&◌, ◌||◌, List, ℕ, ◌*◌, eqb, ltb, leb, length}
use Rattle.codes.specs.Codes.{code_of, permitted}
use Rattle.conditions.specs.declared.Direction.{Direction}
use Rattle.conditions.specs.declared.Direction.TheVariants.{Up, Down}

-- a direction is up or down: "there is no third"
unfoldable pub is_down : Direction → Bool
is_down Up = false
is_down Down = true

-- 1: "cell parameter above 127"
unfoldable pub bad_cell : ℕ → Bool
bad_cell cell = ltb 127 cell

-- 2: "burst type not 1, 2 or 3"
unfoldable pub bad_type : ℕ → Bool
bad_type burst = ltb burst 1 || ltb 3 burst

-- 3: "midamble count not 8 or 16 (types 1, 3), not 3 or 6 (type 2)"; document 02, C-13: "3 admits 4 for types 1 and 3"
unfoldable pub bad_count : ℕ → ℕ → Bool
bad_count burst count = cond (eqb burst 2) (not (eqb count 3 || eqb count 6)) (not (eqb count 4 || eqb count 8 || eqb count 16))

-- 4, where the call names the count: "user outside 1..count"; document 02, C-13: "The user check, so far a range, becomes membership". 16 asks it of the seat's count
unfoldable pub bad_user : ℕ → ℕ → ℕ → Bool
bad_user burst count user = not (permitted (code_of burst) count user)

-- 4, in a booking: "outside 1..16 for types 1, 3; 1..6 for type 2"
unfoldable pub bad_booked_user : ℕ → ℕ → Bool
bad_booked_user burst user = ltb user 1 || ltb (cond (eqb burst 2) 6 16) user

-- 5: "timeslot above 14"
unfoldable pub bad_timeslot : ℕ → Bool
bad_timeslot timeslot = ltb 14 timeslot

-- 6: "spreading factor not 1, 2, 4, 8, 16"
unfoldable pub bad_factor : ℕ → Bool
bad_factor factor = not (eqb factor 1 || eqb factor 2 || eqb factor 4 || eqb factor 8 || eqb factor 16)

-- 6: "spreading factor not 1, 2, 4, 8, 16; code index outside 1..factor"
unfoldable pub bad_code : ℕ → ℕ → Bool
bad_code factor index = bad_factor factor || (ltb index 1 || ltb factor index)

-- 6: "where a direction is given, downlink with a factor other than 1 or 16"
unfoldable pub bad_down_factor : Direction → ℕ → Bool
bad_down_factor direction factor = is_down direction && not (eqb factor 1 || eqb factor 16)

-- 7: "type 3 in downlink"
unfoldable pub bad_down_type : Direction → ℕ → Bool
bad_down_type direction burst = is_down direction && eqb burst 3

-- 8: "TFCI bits not 0, 4, 8, 16, 32; TPC bits not 0 or 2; TPC 2 in downlink"
unfoldable pub bad_control : Direction → ℕ → ℕ → Bool
bad_control direction tfci tpc =
    not (eqb tfci 0 || eqb tfci 4 || eqb tfci 8 || eqb tfci 16 || eqb tfci 32)
    || not (eqb tpc 0 || eqb tpc 2)
    || (is_down direction && eqb tpc 2)

-- 9: "synchronisation case not 1 or 2; k above 14 (case 1) or above 6 (case 2)"
unfoldable pub bad_beacon : ℕ → ℕ → Bool
bad_beacon case k = not (eqb case 1 || eqb case 2) || (eqb case 1 && ltb 14 k) || (eqb case 2 && ltb 6 k)

-- 10: "PICH with type 3; indicator length not 2, 4, 8"
unfoldable pub bad_pich : ℕ → ℕ → Bool
bad_pich burst L = eqb burst 3 || not (eqb L 2 || eqb L 4 || eqb L 8)

-- 10: "frames per block outside 1..4"
unfoldable pub bad_frames : ℕ → Bool
bad_frames F = ltb F 1 || ltb 4 F

-- 10: "indicator number too large", not "below N times F"
unfoldable pub bad_number : ℕ → ℕ → ℕ → Bool
bad_number N F PI = leb (N * F) PI

-- 10: "paging bit outside the 244 or 276", of as many bits as there are
unfoldable pub bad_bit : ℕ → ℕ → Bool
bad_bit bits p = leb bits p

-- 10: "timeslot chip above 2559"
unfoldable pub bad_slot_chip : ℕ → Bool
bad_slot_chip chip = ltb 2559 chip

-- 10: "midamble chip outside 1 to its length"
unfoldable pub bad_midamble_chip : ℕ → ℕ → Bool
bad_midamble_chip chips i = ltb i 1 || ltb chips i

-- 11: "lent memory, read or written, shorter than the call needs"
unfoldable pub too_short : {A : Type 0} → ℕ → List A → Bool
too_short needed memory = ltb (length memory) needed

-- 22 (document 02, C-12): "The level a is a whole number from 1 to 2047 .. 22 for another level"
unfoldable pub bad_level : ℕ → Bool
bad_level level = ltb level 1 || ltb 2047 level

-- 23 (document 02, C-15): "where the place, counted in chips already written, is above the midamble length"
unfoldable pub bad_place : ℕ → ℕ → Bool
bad_place chips written = ltb chips written

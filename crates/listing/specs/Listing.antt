-- Document 01, "The class book": the list that goes into a lent row of booking records. Cited by the promise of `listing::list`, and by the crate demand.
-- Assumes nothing.
use Rattle.std.specs.Prelude.{Bool, List, ◌∷◌, ◌++◌, ℕ, ltb, length, drop}
use Rattle.refusals.specs.Refusals.{Refusals, Outcome, ◌leaving◌, first_of, answer, after}
use Rattle.bookings.specs.declared.Booking.{Booking}
use Rattle.seats.specs.Seats.{bookings}
use Rattle.classbook.specs.declared.Book.{Book}
use Rattle.classbook.specs.Book.{seat_of}
use Rattle.classbook.specs.Calls.{seat_refusals}

-- 11: "lent memory .. shorter than the call needs (a list: fewer than 40 records, however few it writes)"
unfoldable pub few_records : List Booking → Bool
few_records out = ltb (length out) 40

-- list (11 to 14)
unfoldable pub list_refusals : Book → ℕ → List Booking → Refusals
list_refusals b seat out = (11, few_records out) ∷ seat_refusals b seat

-- "A list goes into a lent row of booking records, by timeslot, then by first leaf, and the number written is returned."; "only the named first places are .. written"
unfoldable pub list_outcome : Book → ℕ → List Booking → Outcome ℕ (List Booking)
list_outcome b seat out =
    let n = first_of (list_refusals b seat out) in
    let l = bookings (seat_of b seat) in
    answer n (length l) leaving after n out (l ++ drop (length l) out)

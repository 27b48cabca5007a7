-- Document 01, "The class book": one seat, its plan, and the conditions that it meets. Cited by the crate classbook.
-- Assumes nothing.
use Rattle.std.specs.Prelude.{Bool, true, false, cond, not, ◌&&◌, ◌||◌, List, [], ◌∷◌, ◌++◌, ℕ, ◌-◌, min, eqb, leb, length, take, drop, replicate}
use Rattle.laws.specs.Lists.{every, pairs, matches, total, one, insert_at}
use Rattle.refusals.specs.Refusals.{first_of}
use Rattle.conditions.specs.declared.Direction.TheVariants.{Up}
use Rattle.conditions.specs.Conditions.{is_down}
use Rattle.tables.specs.Tables.{settings_refusals}
use Rattle.bookings.specs.declared.Booking.{Booking}
use Rattle.slots.specs.Slots.{same_slot, summary_of}
use Rattle.seats.specs.declared.Seat.{Seat}
use Rattle.bookings.specs.Bookings.{form_of, comes, fine}
use Rattle.seats.specs.Conditions.{not_permitted, off_beacon}

-- a place that is not in use
abbrev pub blank : Booking
blank = record { timeslot = 0; direction = Up; burst = 0; factor = 0; index = 0; user = 0; tfci = 0; tpc = 0 }

-- all its numbers are 0
unfoldable pub is_blank : Booking → Bool
is_blank x =
    eqb x.timeslot 0 && (not (is_down x.direction) && (eqb x.burst 0 && (eqb x.factor 0
    && (eqb x.index 0 && (eqb x.user 0 && (eqb x.tfci 0 && eqb x.tpc 0))))))

-- a closed seat
unfoldable pub closed : Seat
closed = record { live = false; cell = 0; case = 0; k = 0; long = 0; short = 0; count = 0; row = replicate 40 blank; slots = summary_of [] }

-- a seat just opened with these settings: no bookings
abbrev pub opened : ℕ → ℕ → ℕ → ℕ → ℕ → Seat
opened cell case k long short =
    record { live = true; cell = cell; case = case; k = k; long = long; short = short; count = 0; row = replicate 40 blank; slots = summary_of [] }

-- how many bookings a seat holds: its row has 40 places, whatever the count says
abbrev pub held : Seat → ℕ
held s = min s.count 40

-- its bookings as listed
abbrev pub bookings : Seat → List Booking
bookings s = take (held s) s.row

-- the settings of an open seat pass "1, 3 (no 0 left) and 9"
unfoldable pub good_settings : Seat → Bool
good_settings s = eqb (first_of (settings_refusals s.cell s.case s.k s.long s.short)) 0

-- a booking that may stand in a seat of these settings, the other bookings left out: it "passes 2 and 4 to 8" and meets 16 and 18
unfoldable pub stands : ℕ → ℕ → ℕ → ℕ → Booking → Bool
stands case k long short x = eqb (form_of x) 0 && (not (not_permitted long short x) && not (off_beacon case k x))

-- the same, of the seat's own settings
abbrev pub stands_in : Seat → Booking → Bool
stands_in s x = stands s.case s.k s.long s.short x

-- a closed seat has no settings and holds nothing
unfoldable pub is_bare : Seat → Bool
is_bare s =
    not s.live && (eqb s.cell 0 && (eqb s.case 0 && (eqb s.k 0 && (eqb s.long 0 && (eqb s.short 0 && eqb s.count 0)))))

-- "A seat is closed, or open with a cell parameter, a synchronisation case and k, a long and a short count", and "every open seat's settings pass" their tests
abbrev pub bare_or_good : Seat → Bool
bare_or_good s = is_bare s || (s.live && good_settings s)

-- the first of "the two limits": a seat holds at most 40
abbrev pub at_most_forty : Seat → Bool
at_most_forty s = leb s.count 40

-- "every booking passes 2 and 4 to 8, .. meets 16" and 18
abbrev pub each_may_stand : Seat → Bool
each_may_stand s = every (stands_in s) (bookings s)

-- every booking meets 17, and the list is "by timeslot, then by first leaf": of any two the first comes before the second, and they do not clash
abbrev pub no_two_clash : Seat → Bool
no_two_clash s = pairs fine (bookings s)

-- "anything the form holds twice agrees": where the count says that the bookings end, they do
abbrev pub rest_blank : Seat → Bool
rest_blank s = every is_blank (drop (held s) s.row)

-- the same of the summary, document 02, C-16: "It must equal what the bookings themselves say"; "A book whose summary disagrees breaks its conditions."
abbrev pub summary_agrees : Seat → Bool
summary_agrees s = matches same_slot s.slots (summary_of (bookings s))

-- the conditions of a seat. That a booking "belongs to an open seat" is in the first: a closed seat holds none
unfoldable pub seat_ok : Seat → Bool
seat_ok s = bare_or_good s && (at_most_forty s && (each_may_stand s && (no_two_clash s && (rest_blank s && summary_agrees s))))

-- how many of a list come before x
unfoldable pub rank : Booking → List Booking → ℕ
rank x l = total (λ y. one (comes y x)) l

-- the list with x in its place
unfoldable pub insert : Booking → List Booking → List Booking
insert x l = insert_at (rank x l) x l

-- a booking is named "by timeslot and code"
unfoldable pub names : ℕ → ℕ → ℕ → Booking → Bool
names timeslot factor index y = eqb y.timeslot timeslot && (eqb y.factor factor && eqb y.index index)

-- the list without what is named
unfoldable pub without : ℕ → ℕ → ℕ → List Booking → List Booking
without timeslot factor index [] = []
without timeslot factor index (y ∷ l) = cond (names timeslot factor index y) (without timeslot factor index l) (y ∷ without timeslot factor index l)

-- a seat with the settings of s, the bookings l and what they say of each timeslot, every further place blank
unfoldable pub with_plan : Seat → List Booking → Seat
with_plan s l =
    record {
      live = s.live;
      cell = s.cell;
      case = s.case;
      k = s.k;
      long = s.long;
      short = s.short;
      count = length l;
      row = l ++ replicate (40 - length l) blank;
      slots = summary_of l;
    }

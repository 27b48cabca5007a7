-- Document 01, "the lowest is given", "exactly when", and which numbers a call gives: of each
-- public call, document 02's too, for all that it can be given. No function's proof cites it: it is
-- for the reader. Assumes nothing.
use mathlib.Core.Path.{◌≡◌, refl}
use mathlib.Core.Bool.{true}
use mathlib.Core.List.{List, [], ◌∷◌}
use Prim.Native.Nat.{ℕ}
use lib.Ieee.{Float}
use Rattle.laws.specs.Lists.{chain}
use Rattle.conditions.specs.declared.Direction.{Direction}
use Rattle.tables.specs.Tables.{user_refusals, parts_refusals, pich_refusals}
use Rattle.tables.specs.Tables.{form_refusals, settings_refusals}
use Rattle.midambles.specs.Calls.{chip_refusals, chip_answer, midamble_refusals, midamble_outcome}
use Rattle.blocks.specs.declared.Place.{Place}
use Rattle.blocks.specs.Calls.{start_answer, block_refusals, block_outcome}
use Rattle.signal_card.specs.Calls.{pair_refusals, pair_answer, pairs_refusals, pairs_outcome}
use Rattle.hearing.specs.Calls.{hear_refusals, hear_answer}
use Rattle.timeslots.specs.Calls.{at_refusals, parts_answer, at_answer}
use Rattle.beacons.specs.Calls.{beacon_refusals, beacon_answer}
use Rattle.paging_bits.specs.Bits.{bits_in, per_frame}
use Rattle.paging.specs.Paging.{half_of}
use Rattle.paging.specs.Calls.{indicator_refusals, indicator_answer, owner_refusals, owner_answer}
use Rattle.paging.specs.Calls.{frame_refusals, page_outcome, read_page_outcome}
use Rattle.bookings.specs.declared.Booking.{Booking}
use Rattle.classbook.specs.declared.Book.{Book}
use Rattle.classbook.specs.declared.Request.{Request}
use Rattle.classbook.specs.Calls.{open_refusals, open_answer, request_refusals, booking_refusals}
use Rattle.classbook.specs.Calls.{book_refusals, book_answer}
use Rattle.classbook.specs.Calls.{cancel_refusals, cancel_answer, seat_refusals, close_answer}
use Rattle.listing.specs.Listing.{list_refusals, list_outcome}
use Rattle.summaries.specs.Summaries.{summary_refusals, summary_answer}
use Rattle.facts.specs.Orders.{numbers_of, ascending, Exactly, answer_of, book_reply}
use Rattle.facts.proofs.Replies.{exactly}

-- ---- the training sequences: "one midamble chip 1 to 4 and 10, a whole midamble 1 to 4 and 11"

module _ (cell burst count user : ℕ) where
  pub midamble_chip_exactly : (i : ℕ)
      → Exactly (1 ∷ 2 ∷ 3 ∷ 4 ∷ 10 ∷ []) (chip_refusals cell burst count user i)
      (chip_answer cell burst count user i)
  unfolding chip_answer chip_refusals user_refusals numbers_of ascending chain
  midamble_chip_exactly i = exactly _ (chip_refusals cell burst count user i) _ refl refl

  pub midamble_exactly : (out : List ℕ)
      → Exactly (1 ∷ 2 ∷ 3 ∷ 4 ∷ 11 ∷ []) (midamble_refusals cell burst count user out)
      (answer_of (midamble_outcome cell burst count user out))
  unfolding answer_of midamble_outcome midamble_refusals user_refusals numbers_of ascending chain
  midamble_exactly out = exactly _ (midamble_refusals cell burst count user out) _ refl refl

-- ---- blocks, document 02: "1 to 4 at the start, the same in a block .., and after those 23"

pub block_start_exactly : (cell burst count user : ℕ)
    → Exactly (1 ∷ 2 ∷ 3 ∷ 4 ∷ []) (user_refusals cell burst count user)
    (start_answer cell burst count user)
unfolding start_answer user_refusals numbers_of ascending chain
block_start_exactly cell burst count user =
    exactly _ (user_refusals cell burst count user) _ refl refl

pub block_exactly : (p : Place) (out : List ℕ)
    → Exactly (1 ∷ 2 ∷ 3 ∷ 4 ∷ 23 ∷ []) (block_refusals p) (answer_of (block_outcome p out))
unfolding answer_of block_outcome block_refusals user_refusals numbers_of ascending chain
block_exactly p out = exactly _ (block_refusals p) _ refl refl

-- ---- the signal card, document 02: "Refusals: 22 for another level, last in order"

module _ (cell burst count user : ℕ) where
  pub pair_exactly : (i a : ℕ)
      → Exactly (1 ∷ 2 ∷ 3 ∷ 4 ∷ 10 ∷ 22 ∷ []) (pair_refusals cell burst count user i a)
      (pair_answer cell burst count user i a)
  unfolding pair_answer pair_refusals chip_refusals user_refusals numbers_of ascending chain
  pair_exactly i a = exactly _ (pair_refusals cell burst count user i a) _ refl refl

  pub pairs_exactly : (a : ℕ) (out : List Float)
      → Exactly (1 ∷ 2 ∷ 3 ∷ 4 ∷ 11 ∷ 22 ∷ []) (pairs_refusals cell burst count user a out)
      (answer_of (pairs_outcome cell burst count user a out))
  unfolding answer_of pairs_outcome pairs_refusals user_refusals numbers_of ascending chain
  pairs_exactly a out = exactly _ (pairs_refusals cell burst count user a out) _ refl refl

-- ---- who is on the air, document 02: "1 to 3 and 11, then 24 for a sample outside the rule"

pub hear_exactly : (cell burst count : ℕ) (row : List Float)
    → Exactly (1 ∷ 2 ∷ 3 ∷ 11 ∷ 24 ∷ []) (hear_refusals cell burst count row) (hear_answer cell burst count row)
unfolding hear_answer hear_refusals numbers_of ascending chain
hear_exactly cell burst count row = exactly _ (hear_refusals cell burst count row) _ refl refl

-- ---- a timeslot: "2, 6 (factor and direction only), 7, 8, 10"

module _ (burst : ℕ) (direction : Direction) (factor tfci tpc : ℕ) where
  pub parts_exactly : Exactly (2 ∷ 6 ∷ 7 ∷ 8 ∷ []) (parts_refusals burst direction factor tfci tpc)
      (parts_answer burst direction factor tfci tpc)
  unfolding parts_answer parts_refusals numbers_of ascending chain
  parts_exactly = exactly _ (parts_refusals burst direction factor tfci tpc) _ refl refl

  pub at_exactly : (chip : ℕ)
      → Exactly (2 ∷ 6 ∷ 7 ∷ 8 ∷ 10 ∷ []) (at_refusals burst direction factor tfci tpc chip)
      (at_answer burst direction factor tfci tpc chip)
  unfolding at_answer at_refusals parts_refusals numbers_of ascending chain
  at_exactly chip = exactly _ (at_refusals burst direction factor tfci tpc chip) _ refl refl

-- ---- "beacon timeslots 9"

pub beacon_exactly : (case k : ℕ) → Exactly (9 ∷ []) (beacon_refusals case k) (beacon_answer case k)
unfolding beacon_answer beacon_refusals numbers_of ascending chain
beacon_exactly case k = exactly _ (beacon_refusals case k) _ refl refl

-- ---- "paging 2, 10, 11": number 10 has several conditions, each a row

module _ (burst L : ℕ) where
  pub indicator_exactly : (F PI : ℕ)
      → Exactly (2 ∷ 10 ∷ 10 ∷ 10 ∷ []) (indicator_refusals burst L F PI)
      (indicator_answer burst L F PI)
  unfolding indicator_answer indicator_refusals pich_refusals numbers_of ascending chain
  indicator_exactly F PI = exactly _ (indicator_refusals burst L F PI) _ refl refl

  pub owner_exactly : (p : ℕ)
      → Exactly (2 ∷ 10 ∷ 10 ∷ []) (owner_refusals burst L p) (owner_answer burst L p)
  unfolding owner_answer owner_refusals pich_refusals numbers_of ascending chain
  owner_exactly p = exactly _ (owner_refusals burst L p) _ refl refl

  -- writing reads N settings and writes 244 or 276 bytes; reading, the other way
  pub page_exactly : (settings out : List ℕ)
      → let N = per_frame L (half_of burst) in
      let bytes = bits_in (half_of burst) in
      Exactly (2 ∷ 10 ∷ 11 ∷ []) (frame_refusals burst L N settings bytes out)
      (answer_of (page_outcome burst L settings out))
  unfolding answer_of page_outcome pich_refusals numbers_of ascending chain
  page_exactly settings out = exactly _ (frame_refusals burst L _ settings _ out) _ refl refl

  pub read_page_exactly : (bits out : List ℕ)
      → let N = per_frame L (half_of burst) in
      let bytes = bits_in (half_of burst) in
      Exactly (2 ∷ 10 ∷ 11 ∷ []) (frame_refusals burst L bytes bits N out)
      (answer_of (read_page_outcome burst L bits out))
  unfolding answer_of read_page_outcome pich_refusals numbers_of ascending chain
  read_page_exactly bits out = exactly _ (frame_refusals burst L _ bits _ out) _ refl refl

-- ---- the class book

module _ (b : Book) (seat : ℕ) where
  -- "open (refusals 1, 3, 9, 12, 13, 15)"
  pub open_exactly : (cell case k long short : ℕ)
      → Exactly (1 ∷ 3 ∷ 9 ∷ 12 ∷ 13 ∷ 15 ∷ []) (open_refusals b seat cell case k long short)
      (book_reply (open_answer b seat cell case k long short))
  unfolding book_reply open_answer open_refusals settings_refusals numbers_of ascending chain
  open_exactly cell case k long short =
      exactly _ (open_refusals b seat cell case k long short) _ refl refl

  -- "book (2, 4 to 8, 12 to 14, 16 to 20)"
  pub book_exactly : (x : Request)
      → Exactly (2 ∷ 4 ∷ 5 ∷ 6 ∷ 7 ∷ 8 ∷ 12 ∷ 13 ∷ 14 ∷ 16 ∷ 17 ∷ 18 ∷ 19 ∷ 20 ∷ [])
      (book_refusals b seat x) (book_reply (book_answer b seat x))
  unfolding book_reply book_answer book_refusals request_refusals form_refusals booking_refusals
      numbers_of ascending chain
  book_exactly x = exactly _ (book_refusals b seat x) _ refl refl

  -- "cancel by timeslot and code (5, 6, 12, 13, 14, 21)"
  pub cancel_exactly : (timeslot factor index : ℕ)
      → Exactly (5 ∷ 6 ∷ 12 ∷ 13 ∷ 14 ∷ 21 ∷ []) (cancel_refusals b seat timeslot factor index)
      (book_reply (cancel_answer b seat timeslot factor index))
  unfolding book_reply cancel_answer cancel_refusals numbers_of ascending chain
  cancel_exactly timeslot factor index =
      exactly _ (cancel_refusals b seat timeslot factor index) _ refl refl

  -- "close .. (12, 13, 14)"
  pub close_exactly : Exactly (12 ∷ 13 ∷ 14 ∷ []) (seat_refusals b seat)
      (book_reply (close_answer b seat))
  unfolding book_reply close_answer seat_refusals numbers_of ascending chain
  close_exactly = exactly _ (seat_refusals b seat) _ refl refl

  -- "list (11 to 14)"
  pub list_exactly : (out : List Booking)
      → Exactly (11 ∷ 12 ∷ 13 ∷ 14 ∷ []) (list_refusals b seat out)
      (answer_of (list_outcome b seat out))
  unfolding answer_of list_outcome list_refusals seat_refusals numbers_of ascending chain
  list_exactly out = exactly _ (list_refusals b seat out) _ refl refl

  -- document 02, C-16: "Refusals: 5, 12, 13, 14 as they stand."
  pub summary_exactly : (timeslot : ℕ)
      → Exactly (5 ∷ 12 ∷ 13 ∷ 14 ∷ []) (summary_refusals b seat timeslot)
      (summary_answer b seat timeslot)
  unfolding summary_answer summary_refusals seat_refusals numbers_of ascending chain
  summary_exactly timeslot = exactly _ (summary_refusals b seat timeslot) _ refl refl

-- ---- the tables that calls begin with ascend too: `parts` has its own, and these are read alone
-- where a user, a stored booking or a stored seat's settings are looked at

pub user_ascends : (cell burst count user : ℕ)
    → ascending (numbers_of (user_refusals cell burst count user)) ≡ true
unfolding user_refusals numbers_of ascending chain
user_ascends cell burst count user = refl

pub pich_ascends : (burst L : ℕ) → ascending (numbers_of (pich_refusals burst L)) ≡ true
unfolding pich_refusals numbers_of ascending chain
pich_ascends burst L = refl

pub form_ascends : (timeslot : ℕ) (way : Direction) (burst factor index user tfci tpc : ℕ)
    → ascending (numbers_of (form_refusals timeslot way burst factor index user tfci tpc)) ≡ true
unfolding form_refusals numbers_of ascending chain
form_ascends timeslot way burst factor index user tfci tpc = refl

pub settings_ascend : (cell case k long short : ℕ)
    → ascending (numbers_of (settings_refusals cell case k long short)) ≡ true
unfolding settings_refusals numbers_of ascending chain
settings_ascend cell case k long short = refl

-- What the four calls answer and leave in lent memory, for all inputs: each one's table of refusals, what its value says, and its whole outcome.
-- Cited by their promises. Assumes nothing.
use Rattle.std.specs.Prelude.{Option, Some, None, ◌||◌, List, [], ◌∷◌, ◌++◌, ℕ, drop}
use Rattle.conditions.specs.Conditions.{bad_frames, bad_number, bad_bit, too_short}
use Rattle.tables.specs.Tables.{pich_refusals}
use Rattle.refusals.specs.Refusals.{Answer, Outcome, ◌leaving◌, Refusals, first_of, answer, after}
use Rattle.paging_bits.specs.Bits.{bits_in, per_frame, burst_of, readings_of}
use Rattle.paging.specs.declared.IndicatorPlace.{IndicatorPlace}
use Rattle.paging.specs.Paging.{half_of, Place, place, ◌bitsFrom◌, place_of, Owner, reserved, owned, owner_at}

-- "paging 2, 10": the number is below N times F
unfoldable pub indicator_refusals : ℕ → ℕ → ℕ → ℕ → Refusals
indicator_refusals burst L F PI = pich_refusals burst L ++ (10, bad_frames F) ∷ (10, bad_number (per_frame L (half_of burst)) F PI) ∷ []

-- where the indicator sits
abbrev pub said_place : IndicatorPlace → Place
said_place x = place x.frame x.q (x.length bitsFrom x.first) (x.length bitsFrom x.second)

unfoldable pub indicator_answer : ℕ → ℕ → ℕ → ℕ → Answer Place
indicator_answer burst L F PI = answer (first_of (indicator_refusals burst L F PI)) (place_of L (half_of burst) PI)

-- "paging 2, 10": the bit is one of the 244 or 276
unfoldable pub owner_refusals : ℕ → ℕ → ℕ → Refusals
owner_refusals burst L p = pich_refusals burst L ++ (10, bad_bit (bits_in (half_of burst)) p) ∷ []

-- who owns the bit
abbrev pub said_owner : Option ℕ → Owner
said_owner None = reserved
said_owner (Some q) = owned q

unfoldable pub owner_answer : ℕ → ℕ → ℕ → Answer Owner
owner_answer burst L p = answer (first_of (owner_refusals burst L p)) (owner_at L (half_of burst) p)

-- "paging 2, 10, 11", of a call that reads `need` bytes of `given` and writes `room` bytes of `out`
abbrev pub frame_refusals : ℕ → ℕ → ℕ → List ℕ → ℕ → List ℕ → Refusals
frame_refusals burst L need given room out = pich_refusals burst L ++ (11, too_short need given || too_short room out) ∷ []

-- such a call answers how many bytes it wrote: what it made takes the first places, and further bytes stay as they were
abbrev pub frame_outcome : ℕ → ℕ → ℕ → List ℕ → ℕ → List ℕ → List ℕ → Outcome ℕ (List ℕ)
frame_outcome burst L need given room made out =
    let n = first_of (frame_refusals burst L need given room out) in
    answer n room leaving after n out (made ++ drop room out)

-- "Writing takes one frame's N settings (0 off, any other on) and gives 244 or 276 bytes of 0 or 1, in time order."
unfoldable pub page_outcome : ℕ → ℕ → List ℕ → List ℕ → Outcome ℕ (List ℕ)
page_outcome burst L settings out =
    let H = half_of burst in
    let N = per_frame L H in
    frame_outcome burst L N settings (bits_in H) (burst_of L N settings) out

-- "Reading writes one byte for each q"
unfoldable pub read_page_outcome : ℕ → ℕ → List ℕ → List ℕ → Outcome ℕ (List ℕ)
read_page_outcome burst L bits out =
    let H = half_of burst in
    let N = per_frame L H in
    frame_outcome burst L (bits_in H) bits N (readings_of L N H bits) out

-- Answers written as plain numbers, so that all figures of document 01 fit into one table. Cited by specs/Figures.antt.
-- Assumes nothing.
use Rattle.std.specs.Prelude.{List, [], ◌∷◌, ◌++◌, map, ℕ, zero, suc, ◌+◌, ◌-◌, get_or, take}
use Rattle.refusals.specs.Refusals.{Answer, refused, answered, Outcome, ◌leaving◌}
use Rattle.conditions.specs.declared.Direction.{Direction}
use Rattle.conditions.specs.declared.Direction.TheVariants.{Up, Down}
use Rattle.timeslots.specs.Timeslots.{SevenParts}
use Rattle.paging.specs.Paging.{Place, place, Bits, ◌bitsFrom◌}
use Rattle.bookings.specs.declared.Booking.{Booking}

-- an answer: 0 and the refusal's number, or 1 and the numbers of what was asked for
abbrev pub shown : {A : Type 0} → (A → List ℕ) → Answer A → List ℕ
shown numbers (refused n) = 0 ∷ n ∷ []
shown numbers (answered x) = 1 ∷ numbers x

-- the same where the paper says no more than "answered"
abbrev pub whether : {A : Type 0} → Answer A → List ℕ
whether a = shown (λ x. []) a

-- what the paper says, in the same form: a refusal, numbers, and "answered"
abbrev pub refusal : ℕ → List ℕ
refusal n = 0 ∷ n ∷ []

abbrev pub given : List ℕ → List ℕ
given numbers = 1 ∷ numbers

abbrev pub is_answered : List ℕ
is_answered = 1 ∷ []

-- the answer alone, without what the call leaves in lent memory
abbrev pub reply : {A M : Type 0} → Outcome A M → Answer A
reply (a leaving m) = a

-- one number
abbrev pub number : ℕ → List ℕ
number n = n ∷ []

-- the numbers of several answers, one behind the other
abbrev pub all_of : {A : Type 0} → (A → List ℕ) → List A → List ℕ
all_of numbers [] = []
all_of numbers (x ∷ rest) = numbers x ++ all_of numbers rest

-- n numbers from a on
abbrev pub from : ℕ → ℕ → List ℕ
from a zero = []
from a (suc n) = a ∷ from (suc a) n

-- of the seven parts of a timeslot: where each starts; the bits of both data parts, or of data 2; the first and the last chip of part p, counted from 0
abbrev pub starts : SevenParts → List ℕ
starts parts = map (λ (span : ℕ × ℕ). span.0) parts.0

abbrev pub data_bits : SevenParts → List ℕ
data_bits parts = parts.1.0 ∷ parts.1.1 ∷ []

abbrev pub data2_bits : SevenParts → List ℕ
data2_bits parts = parts.1.1 ∷ []

abbrev pub first_and_last : ℕ → SevenParts → List ℕ
first_and_last p parts = let span = get_or parts.0 p (0, 0) in span.0 ∷ (span.0 + span.1 - 1) ∷ []

-- of a paging indicator: its frame, its q, and each of its bits; or its q and its bits
abbrev pub bits : Bits → List ℕ
bits (n bitsFrom a) = from a n

abbrev pub framed : Place → List ℕ
framed (place frame q first second) = frame ∷ q ∷ bits first ++ bits second

abbrev pub in_frame : Place → List ℕ
in_frame (place frame q first second) = q ∷ bits first ++ bits second

-- a direction, 0 up or 1 down; the eight numbers of a booking; and a list: its answer, and the bookings that it says it wrote
abbrev pub direction : Direction → ℕ
direction Up = 0
direction Down = 1

abbrev pub booking : Booking → List ℕ
booking x =
    x.timeslot ∷ direction x.direction ∷ x.burst ∷ x.factor ∷ x.index ∷ x.user ∷ x.tfci ∷ x.tpc ∷ []

abbrev pub listed : Outcome ℕ (List Booking) → List ℕ
listed (refused n leaving records) = refusal n
listed (answered n leaving records) = given (n ∷ all_of booking (take n records))

-- Document 01, "Refusal numbers": what every call answers, and which refusal it gives. Cited by the promises of all calls.
-- Assumes nothing.
use Rattle.std.specs.Prelude.{Bool, cond, List, [], ◌∷◌, ℕ, eqb, Result, Ok, Err}
use Rattle.refusals.specs.declared.Refusal.{Refusal}
use Rattle.refusals.specs.declared.Refusal.TheVariants as refusal

infix 10 ◌leaving◌
-- what a call answers: a refusal by its number only, or what it was asked for
pub data Answer (A : Type 0) : Type 0 where
  refused : ℕ → Answer A
  answered : A → Answer A

-- a call's answer and what was lent to it, memory or the book, as the call leaves it
pub data Outcome (A M : Type 0) : Type 0 where
  ◌leaving◌ : Answer A → M → Outcome A M

-- a call's refusals: each number with whether its condition holds, in the order in which they are read
abbrev pub Refusals : Type 0
Refusals = List (ℕ × Bool)

-- the number of the first refusal that holds; 0, which is nobody's number, where none does
unfoldable pub first_of : Refusals → ℕ
first_of [] = 0
first_of (row ∷ rest) = cond row.1 row.0 (first_of rest)

-- the answer of a call whose first refusal is n: the refusal, or the value where there is none
unfoldable pub answer : {A : Type 0} → ℕ → A → Answer A
answer n value = cond (eqb n 0) (answered value) (refused n)

-- what is lent to such a call, afterwards: "leaves all lent memory and the book unchanged", or as the call makes it
unfoldable pub after : {M : Type 0} → ℕ → M → M → M
after n before made = cond (eqb n 0) made before

-- the number of each refusal
unfoldable pub number_of : Refusal → ℕ
number_of refusal.Cell = 1
number_of refusal.BurstType = 2
number_of refusal.Count = 3
number_of refusal.User = 4
number_of refusal.Timeslot = 5
number_of refusal.Code = 6
number_of refusal.DownlinkType = 7
number_of refusal.Control = 8
number_of refusal.Synchronisation = 9
number_of refusal.OutOfRange = 10
number_of refusal.ShortMemory = 11
number_of refusal.BrokenBook = 12
number_of refusal.NoSuchSeat = 13
number_of refusal.SeatClosed = 14
number_of refusal.SeatOpen = 15
number_of refusal.UserOfSeat = 16
number_of refusal.Clash = 17
number_of refusal.BeaconRule = 18
number_of refusal.SeatFull = 19
number_of refusal.RoomUsedUp = 20
number_of refusal.NoSuchBooking = 21
number_of refusal.Level = 22
number_of refusal.BlockPlace = 23
number_of refusal.Sample = 24

-- the number that a call's result gives; 0 where it is not refused
abbrev pub refusal_in : {A : Type 0} → Result A Refusal → ℕ
refusal_in (Ok value) = 0
refusal_in (Err r) = number_of r

-- what a call's result says: the refusal by its number, or what it was asked for
abbrev pub said : {A : Type 0} → Result A Refusal → Answer A
said (Ok value) = answered value
said (Err r) = refused (number_of r)

-- the same, where `meant` says what the value means
abbrev pub said_as : {A B : Type 0} → (A → B) → Result A Refusal → Answer B
said_as meant (Ok value) = answered (meant value)
said_as meant (Err r) = refused (number_of r)

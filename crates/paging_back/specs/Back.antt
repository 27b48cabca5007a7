-- What the theorems on paging bits speak of: the bits that a place names, what a bit's owner makes
-- of it, and when an indicator's bits are alike or differ. L is the length of an indicator's runs, H
-- half the carrying bits, q an indicator, p a bit by its place in time order.
-- Cited by the theorems of `paging_back`. Assumes nothing.
use Rattle.std.specs.Prelude.{◌≡◌, Bool, false, List, ◌⊎◌, ℕ, ◌+◌, ◌<◌, eqb, get_or}
use Rattle.refusals.specs.Refusals.{answered}
use Rattle.paging_bits.specs.Bits.{bits_in, per_frame, as_bit, in_time}
use Rattle.paging.specs.Paging.{half_of, Bits, ◌bitsFrom◌, Place, place, Owner, reserved, owned}
use Rattle.paging.specs.Calls.{owner_answer}

-- carrying bit b is one of these
unfoldable pub In : ℕ → Bits → Type 0
In b (L bitsFrom a) = (j : ℕ) × (j < L) × (b ≡ a + j)

-- carrying bit b is one of those that a place names
unfoldable pub Named : ℕ → Place → Type 0
Named b (place frame q first second) = In b first ⊎ In b second

-- the number q of a place
unfoldable pub q_of : Place → ℕ
q_of (place frame q first second) = q

-- "all 1 if on, all 0 if off", and "reserved and written 0": the bit by its owner
unfoldable pub bit_by : List ℕ → Owner → ℕ
bit_by settings reserved = 0
bit_by settings (owned q) = as_bit (get_or settings q 0)

-- whether an owner is q
unfoldable pub owner_is : ℕ → Owner → Bool
owner_is q reserved = false
owner_is q (owned r) = eqb q r

-- N, how many a timeslot holds, by its burst type; and the bits of its burst, "244 or 276"
abbrev pub number_of : ℕ → ℕ → ℕ
number_of burst L = per_frame L (half_of burst)

abbrev pub bits_of : ℕ → ℕ
bits_of burst = bits_in (half_of burst)

-- bit p, named by its place in time order, is one of those that a place names
unfoldable pub Lies : ℕ → ℕ → Place → Type 0
Lies burst p x = (b : ℕ) × (Named b x) × (in_time (half_of burst) b ≡ p)

-- `owner` answers that bit p is q's
abbrev pub Owns : ℕ → ℕ → ℕ → ℕ → Type 0
Owns burst L q p = owner_answer burst L p ≡ answered (owned q)

-- "a byte other than 0 is 1": the bit at place p of a burst
abbrev pub bit_at : List ℕ → ℕ → ℕ
bit_at bits p = as_bit (get_or bits p 0)

-- every bit of q is v, as in "all 1 if on, all 0 if off"
unfoldable pub AllAre : ℕ → ℕ → ℕ → List ℕ → ℕ → Type 0
AllAre burst L q bits v = (p : ℕ) → Owns burst L q p → bit_at bits p ≡ v

-- "torn where its bits differ": two bits of q are not the same
unfoldable pub Differ : ℕ → ℕ → ℕ → List ℕ → Type 0
Differ burst L q bits =
    (p : ℕ) × (p' : ℕ) × (Owns burst L q p) × (Owns burst L q p')
    × (bit_at bits p ≡ bit_at bits p' → ⊥)

-- Document 01, "The class book": the leaves that a code covers. Document 02, C-16: "a pattern of 16 bits, one for each leaf". Cited by the crates bookings and slots.
-- Assumes nothing.
use Rattle.std.specs.Prelude.{Bool, ◌&&◌, List, [], ◌∷◌, ℕ, ◌+◌, ◌-◌, ◌*◌, ◌/◌, ◌^◌, leb, ltb}
use Rattle.laws.specs.Lists.{one, total}

-- "Code (Q, k) covers the 16/Q leaves from (k - 1)16/Q"
unfoldable pub leaves_of : ℕ → ℕ
leaves_of Q = 16 / Q

-- the first of them
unfoldable pub first_leaf : ℕ → ℕ → ℕ
first_leaf Q k = (k - 1) * leaves_of Q

-- leaf i is one of them
unfoldable pub covers : ℕ → ℕ → ℕ → Bool
covers Q k i = leb (first_leaf Q k) i && ltb i (first_leaf Q k + leaves_of Q)

-- the leaves of a timeslot
abbrev pub the_leaves : List ℕ
the_leaves = 0 ∷ 1 ∷ 2 ∷ 3 ∷ 4 ∷ 5 ∷ 6 ∷ 7 ∷ 8 ∷ 9 ∷ 10 ∷ 11 ∷ 12 ∷ 13 ∷ 14 ∷ 15 ∷ []

-- "a pattern of 16 bits, one for each leaf": leaf i is bit 2^i, set where f says so
unfoldable pub pattern : (ℕ → Bool) → ℕ
pattern f = total (λ i. one (f i) * 2 ^ i) the_leaves

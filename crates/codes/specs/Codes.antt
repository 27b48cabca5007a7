-- Document 01, "Training sequences": the numbers of both codes, the users' shifts, and (document 02, C-13) the users that a count permits. Cited by the
-- promises of this crate, by conditions, midambles, blocks and signal_card. Shifts and users are defined once, over the numbers of a code; long and short codes only
-- fill them in. Assumes nothing.
use Rattle.std.specs.Prelude.{Bool, cond, ◌&&◌, ◌||◌, ℕ, ◌+◌, ◌-◌, ◌*◌, ◌%◌, eqb, ltb, leb}
use Rattle.codes.specs.declared.Code.{Code}

-- the table's first line, types 1 and 3: period P, base users K', step W, half step, midamble length
abbrev pub long : Code
long = record { period = 456; base = 8; step = 57; half = 28; length = 512 }

-- its second line, type 2
abbrev pub short : Code
short = record { period = 192; base = 3; step = 64; half = 32; length = 256 }

-- "Long rows serve types 1 and 3, short rows type 2."
unfoldable pub code_of : ℕ → Code
code_of burst = cond (eqb burst 2) short long

-- "With K = 2K' and h the half step: k = 1..K' has shift (K' - k)W; k = K'+1..K-1 has (K - k - 1)W + h; k = K has (K' - 1)W + h."
unfoldable pub shift_of : Code → ℕ → ℕ
shift_of c k =
    cond (leb k c.base)
    ((c.base - k) * c.step)
    (cond (ltb k (2 * c.base)) ((2 * c.base - k - 1) * c.step + c.half) ((c.base - 1) * c.step + c.half))

-- the users k that a count permits, Annex A: the count says how many they are
unfoldable pub permitted : Code → ℕ → ℕ → Bool
permitted c count k =
    leb 1 k
    -- "for all k=1,2,...,K; K=2K'": the counts 16 and 6
    && ((eqb count (2 * c.base) && leb k (2 * c.base))
    -- "for k=1,2,...,K', only": 8 and 3
    || (eqb count c.base && leb k c.base)
    -- "for odd k=1,3,5,..., ≤ K', only"; document 02, C-13: "so users 1, 3, 5, 7. Add the long count 4." 3 has no half: there is no such short count
    || (eqb (2 * count) c.base && (leb k c.base && eqb (k % 2) 1)))

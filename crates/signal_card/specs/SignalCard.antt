-- Document 02, C-12, "Chips for the signal card": a chip at a level, and a row of them. Cited by specs/Calls.antt, and over C.
-- Over document 01's chip, its power of j, so that what a midamble is stands in one place (crate midambles). Assumes nothing.
use Rattle.std.specs.Prelude.{cond, List, [], ◌∷◌, ℕ, eqb, ℤ, pos, neg_ℤ, Float}
use Rattle.std.specs.Float.{binary32}
use Rattle.std.specs.Float.Ieee.{of_int}

-- "Powers 0, 1, 2, 3 are (a, 0), (0, a), (-a, 0), (0, -a)": in whole numbers, which have one zero
unfoldable pub pair_of : ℕ → ℕ → ℤ × ℤ
pair_of a power =
    cond (eqb power 0) (pos a, pos 0)
    (cond (eqb power 1) (pos 0, pos a)
    (cond (eqb power 2) (neg_ℤ (pos a), pos 0)
    (pos 0, neg_ℤ (pos a))))

-- "as two f32 numbers": the f32 of a whole number, which is that number, and of 0 "plain zero and not minus zero" (floats/proofs/Whole.antt)
unfoldable pub f32_of : ℤ → Float
f32_of z = of_int binary32 z

-- "real part and imaginary part"
unfoldable pub real_of : ℕ → ℕ → Float
real_of a power = f32_of (pair_of a power).0

unfoldable pub imaginary_of : ℕ → ℕ → Float
imaginary_of a power = f32_of (pair_of a power).1

-- a row of chips, "real then imaginary", chip after chip
unfoldable pub floats_of : ℕ → List ℕ → List Float
floats_of a [] = []
floats_of a (power ∷ rest) = real_of a power ∷ imaginary_of a power ∷ floats_of a rest

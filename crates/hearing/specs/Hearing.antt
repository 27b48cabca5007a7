-- Document 02, C-18, "Who is that on the air?": how strongly a user is heard, and whom that names. Whole numbers only.
-- Over a user's two sums (crate correlation). Cited by specs/Calls.antt and specs/Inside.antt, and by the crate clean_copies. Assumes nothing.
use Rattle.std.specs.Prelude.{Bool, cond, ◌&&◌, List, ℕ, zero, suc, ◌+◌, ◌*◌, ltb, nat_abs, Float}
use Rattle.correlation.specs.Correlation.{real_sum, imaginary_sum}

-- "sum of squares, taken over whole numbers"; 0 stands for nobody, who is not heard
unfoldable pub strength : ℕ → ℕ → List Float → ℕ → ℕ
strength cell burst row zero = 0
strength cell burst row (suc k) =
    let re = nat_abs (real_sum cell burst row (suc k)) in
    let im = nat_abs (imaginary_sum cell burst row (suc k)) in
    re * re + im * im

-- "the user with the greatest .., the lowest user on a tie, nobody if all sums are zero": from user 1 up to user k, one takes the place of whoever was heard before only if heard better
unfoldable pub loudest : (ℕ → Bool) → (ℕ → ℕ) → ℕ → ℕ
loudest may heard zero = 0
loudest may heard (suc k) =
    cond (may (suc k) && ltb (heard (loudest may heard k)) (heard (suc k))) (suc k) (loudest may heard k)

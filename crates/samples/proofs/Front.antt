-- The floats in front of a row: all of them samples, one more, and each of them. Cited by the proof of bad_samples and by the crates hearing and correlating.
-- Assumes nothing.
use mathlib.Core.Path.{◌≡◌, refl, sym, ap, ◌∙◌}
use mathlib.Core.Bool.{Bool, true, false, not, ◌&&◌, true≢false}
use mathlib.Core.List.{List, [], ◌∷◌, ◌++◌}
use Prim.Native.Nat.{ℕ, zero, suc, ◌+◌, ◌<◌, ◌≤◌}
use native.Mathlib.Nat.{not-suc-le-zero, le_of_suc-le-suc}
use native.Mathlib.Numerals.{add-one}
use native.Mathlib.Omega.{arith}
use lib.Dec.{T}
use lib.ListN.{length, take, get_or}
use lib.Seq.{take-suc}
use lib.Ieee.{Float, nan}
use Rattle.laws.proofs.Bools.{T-and-left, T-and-right}
use Rattle.samples.specs.Samples.{is_sample, bad_samples}
use Rattle.laws.specs.Lists.{every}

and_assoc : (a b c : Bool) → (a && (b && c)) ≡ ((a && b) && c)
and_assoc true b c = refl
and_assoc false b c = refl

and_one : (a : Bool) → (a && true) ≡ a
and_one true = refl
and_one false = refl

all_behind : (l : List Float) (x : Float) → every is_sample (l ++ (x ∷ [])) ≡ (every is_sample l && is_sample x)
unfolding every
all_behind [] x = and_one (is_sample x)
all_behind (y ∷ l) x = ap (λ (b : Bool). is_sample y && b) (all_behind l x) ∙ and_assoc (is_sample y) (every is_sample l) (is_sample x)

-- one float more
pub one_more : (row : List Float) (i : ℕ) (good this : Bool) → i < length row → good ≡ every is_sample (take i row) → this ≡ is_sample (get_or row i nan)
    → (good && this) ≡ every is_sample (take (i + 1) row)
one_more row i good this h g t =
    ap (λ (b : Bool). b && this) g
    ∙ ap (λ (b : Bool). every is_sample (take i row) && b) t
    ∙ sym (ap (every is_sample) (ap (λ (k : ℕ). take k row) (add-one i) ∙ take-suc row i nan h) ∙ all_behind (take i row) (get_or row i nan))

-- of a row in front of which every float is one
each : (row : List Float) (n k : ℕ) → T (every is_sample (take n row)) → k < n → k < length row → T (is_sample (get_or row k nan))
unfolding every
each [] n k t h l = absurd (not-suc-le-zero l)
each (x ∷ row) zero k t h l = absurd (not-suc-le-zero h)
each (x ∷ row) (suc n) zero t h l = T-and-left (is_sample x) (every is_sample (take n row)) t
each (x ∷ row) (suc n) (suc k) t h l = each row n k (T-and-right (is_sample x) (every is_sample (take n row)) t) (le_of_suc-le-suc h) (le_of_suc-le-suc l)

pub each_sample : (row : List Float) (n k : ℕ) → bad_samples n row ≡ false → n ≤ length row → k < n → T (is_sample (get_or row k nan))
unfolding bad_samples
each_sample row n k e room h = each row n k (good (every is_sample (take n row)) e) h (omega arith)
  where
    good : (b : Bool) → not b ≡ false → T b
    good true p = tt
    good false p = absurd (true≢false p)

-- nothing was read yet
pub none_yet : (row : List Float) → true ≡ every is_sample (take 0 row)
unfolding every
none_yet row = refl

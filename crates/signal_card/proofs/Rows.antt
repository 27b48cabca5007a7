-- A row of floats is written from the front, two a turn: the parts of one chip. And where the parts of a chip then stand. Cited by the proof of `fill` and by the
-- crates facts and clean_copies. Assumes nothing.
use mathlib.Core.Path.{◌≡◌, refl, sym, ap, ◌∙◌}
use mathlib.Core.List.{List, [], ◌∷◌, ◌++◌}
use Prim.Native.Nat.{ℕ, zero, suc, ◌+◌, ◌-◌, ◌*◌, ◌<◌, ◌≤◌}
use native.Mathlib.Numerals.{add-one}
use native.Mathlib.Omega.{arith}
use lib.ListN.{length, take, drop, set, get_or, get_or-append}
use lib.Seq.{drop-cons, take-suc, length-take-le}
use lib.Ieee.{Float, nan}
use Rattle.laws.proofs.Runs.{run_length, run_at}
use Rattle.codes.specs.Codes.{code_of}
use Rattle.midambles.specs.TrainingSequences.{chip_of, chips_of}
use Rattle.signal_card.specs.SignalCard.{real_of, imaginary_of, floats_of}

-- two floats a chip
pub floats_length : (a : ℕ) (l : List ℕ) → length (floats_of a l) ≡ 2 * length l
unfolding floats_of
floats_length a [] = refl
floats_length a (p ∷ l) = let k = floats_length a l in omega arith

-- one chip more
pub floats_snoc : (a : ℕ) (l : List ℕ) (p : ℕ) → floats_of a (l ++ (p ∷ [])) ≡ floats_of a l ++ (real_of a p ∷ imaginary_of a p ∷ [])
unfolding floats_of
floats_snoc a [] p = refl
floats_snoc a (q ∷ l) p = ap (λ (r : List Float). real_of a q ∷ imaginary_of a q ∷ r) (floats_snoc a l p)

-- nothing is written yet
pub floats_none : (a : ℕ) (d : List Float) → d ≡ floats_of a [] ++ drop 0 d
unfolding floats_of
floats_none a d = refl

-- two stores behind a front of a list
two_stores : (front rest : List Float) (was was' x y : Float) (n : ℕ) → length front ≡ n
    → set (set (front ++ (was ∷ was' ∷ rest)) n x) (suc n) y ≡ (front ++ (x ∷ y ∷ [])) ++ rest
two_stores [] rest was was' x y zero e = refl
two_stores [] rest was was' x y (suc n) e = absurd (omega arith)
two_stores (f ∷ front) rest was was' x y zero e = absurd (omega arith)
two_stores (f ∷ front) rest was was' x y (suc n) e = ap (λ (r : List Float). f ∷ r) (two_stores front rest was was' x y n (omega arith))

-- a turn: from what stood before it and the two floats that it wrote
pub floats_turn : (a : ℕ) (chips : List ℕ) (d out : List Float) (i : ℕ) (x y : Float) → i < length chips → 2 * i + 1 < length d
    → out ≡ floats_of a (take i chips) ++ drop (2 * i) d → x ≡ real_of a (get_or chips i 0) → y ≡ imaginary_of a (get_or chips i 0)
    → set (set out (2 * i) x) (2 * i + 1) y ≡ floats_of a (take (i + 1) chips) ++ drop (2 * (i + 1)) d
floats_turn a chips d out i x y h room e ex ey =
    let p = get_or chips i 0 in
    let front = floats_of a (take i chips) in
    let rest = drop (suc (suc (2 * i))) d in
    let size : length front ≡ 2 * i = floats_length a (take i chips) ∙ ap (λ (k : ℕ). 2 * k) (length-take-le i chips (omega arith)) in
    let far : suc (suc (2 * i)) ≡ 2 * (i + 1) = omega arith in
    ap (λ (k : ℕ). set (set out (2 * i) x) k y) (add-one (2 * i))
    ∙ ap (λ (l : List Float). set (set l (2 * i) x) (suc (2 * i)) y) e
    ∙ ap (λ (l : List Float). set (set (front ++ l) (2 * i) x) (suc (2 * i)) y) (drop-cons d (2 * i) nan (omega arith) ∙ ap (λ (l : List Float). get_or d (2 * i) nan ∷ l) (drop-cons d (suc (2 * i)) nan (omega arith)))
    ∙ two_stores front rest (get_or d (2 * i) nan) (get_or d (suc (2 * i)) nan) x y (2 * i) size
    ∙ ap (λ (v : Float). (front ++ (v ∷ y ∷ [])) ++ rest) ex
    ∙ ap (λ (v : Float). (front ++ (real_of a p ∷ v ∷ [])) ++ rest) ey
    ∙ ap (λ (l : List Float). l ++ rest) (sym (floats_snoc a (take i chips) p))
    ∙ ap (λ (l : List ℕ). floats_of a l ++ rest) (sym (take-suc chips i 0 h))
    ∙ ap (λ (k : ℕ). floats_of a (take k chips) ++ rest) (sym (add-one i))
    ∙ ap (λ (k : ℕ). floats_of a (take (i + 1) chips) ++ drop k d) far

-- the two floats of chip k, counted from 0, in a row of them
pub floats_at : (a : ℕ) (l : List ℕ) (k : ℕ) → k < length l
    → (get_or (floats_of a l) (2 * k) nan ≡ real_of a (get_or l k 0)) × (get_or (floats_of a l) (2 * k + 1) nan ≡ imaginary_of a (get_or l k 0))
unfolding floats_of
floats_at a [] k h = absurd (omega arith)
floats_at a (p ∷ l) zero h = (refl, refl)
floats_at a (p ∷ l) (suc k) h =
    let rest = floats_at a l k (omega arith) in
    let even : 2 * suc k ≡ suc (suc (2 * k)) = omega arith in
    let odd : 2 * suc k + 1 ≡ suc (suc (2 * k + 1)) = omega arith in (
      ap (λ (n : ℕ). get_or (real_of a p ∷ imaginary_of a p ∷ floats_of a l) n nan) even ∙ rest.0,
      ap (λ (n : ℕ). get_or (real_of a p ∷ imaginary_of a p ∷ floats_of a l) n nan) odd ∙ rest.1,
    )

-- a user's midamble, two floats a chip
pub midamble_length : (cell burst user a : ℕ) → length (floats_of a (chips_of cell burst user)) ≡ 2 * (code_of burst).length
unfolding chips_of
midamble_length cell burst user a = floats_length a (chips_of cell burst user) ∙ ap (λ (n : ℕ). 2 * n) (run_length _ (code_of burst).length)

-- the two floats of chip i, counted from 1, in a row that begins with it
module _ (cell burst user a : ℕ) (rest row : List Float) (whole : floats_of a (chips_of cell burst user) ++ rest ≡ row) where
  pub row_at : (i : ℕ) → 1 ≤ i → i ≤ (code_of burst).length
      → (get_or row (2 * (i - 1)) nan ≡ real_of a (chip_of cell burst user i)) × (get_or row (2 * (i - 1) + 1) nan ≡ imaginary_of a (chip_of cell burst user i))
  unfolding chips_of
  row_at i low high =
      let chips = chips_of cell burst user in
      let L = (code_of burst).length in
      let k = i - 1 in
      let size : length chips ≡ L = run_length _ L in
      let back : k + 1 ≡ i = omega arith in
      let here : get_or chips k 0 ≡ chip_of cell burst user i = run_at _ L k (omega arith) ∙ ap (λ (j : ℕ). chip_of cell burst user j) back in
      let two = floats_at a chips k (omega (arith, size)) in
      let front : (j : ℕ) → j < 2 * L → get_or row j nan ≡ get_or (floats_of a chips) j nan =
      λ j h. ap (λ (l : List Float). get_or l j nan) (sym whole) ∙ get_or-append (floats_of a chips) rest nan j (omega (arith, midamble_length cell burst user a)) in
      (front (2 * k) (omega arith) ∙ two.0 ∙ ap (real_of a) here, front (2 * k + 1) (omega arith) ∙ two.1 ∙ ap (imaginary_of a) here)

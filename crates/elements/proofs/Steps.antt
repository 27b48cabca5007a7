-- What each step of filling writes, over plain values: a piece of a digit, a whole digit, a stretch of them, and the three parts of a run. Cited by the proofs of this crate.
-- Assumes nothing.
use mathlib.Core.Path.{◌≡◌, sym, ap, ◌∙◌}
use mathlib.Core.List.{List, [], ◌++◌}
use mathlib.Core.Logic.{◌⊎◌, inl, inr, ⊎_elim}
use Prim.Native.Nat.{ℕ, ◌+◌, ◌-◌, ◌*◌, ◌/◌, ◌%◌, ◌<◌, ◌≤◌}
use native.Mathlib.Nat.{mod-eq_of_lt, mod_self, mod-add-mod}
use native.Mathlib.Omega.{arith}
use lib.ListN.{length, get_or, take, drop, length-drop}
use lib.Seq.{length-take-le}
use Rattle.std.proofs.Common.{min}
use Rattle.laws.specs.Runs.{run}
use Rattle.laws.proofs.Cases.{below_or_not}
use Rattle.laws.proofs.Runs.{run_length, run_alike, run_part, rest, put_back, run_behind, run_fits, rest_length}
use Rattle.elements.specs.Inside.{Row, digits_in, element_in, elements_after, power_in, four_of, fours_of}
use Rattle.elements.proofs.Digits.{digit_low, fours_at, power_at}
use Rattle.elements.proofs.Repeats.{element_of_digit, digit_again}

module _ (row : List ℕ) (good : Row row) where
  digits : 2 * length row ≡ 8 * length row / 4
  digits = omega arith

  -- element e of digit g
  in_digit : (g e : ℕ) → 1 ≤ e → e ≤ 4 → element_in row (e + 4 * g) ≡ power_in (get_or (digits_in row) (g % (2 * length row)) 0) e
  unfolding element_in
  in_digit g e low high =
      element_of_digit (8 * length row) (omega arith) (omega (arith, good.some)) (digits_in row) g e low high
      ∙ ap (λ (n : ℕ). power_in (get_or (digits_in row) (g % n) 0) e) (sym digits)

  -- beyond the row's last digit its first comes again
  again : (g i : ℕ) → 1 ≤ i → element_in row (i + 4 * (g % (2 * length row))) ≡ element_in row (i + 4 * g)
  unfolding element_in
  again g i low =
      ap (λ (n : ℕ). element_in row (i + 4 * (g % n))) digits
      ∙ digit_again (8 * length row) (omega arith) (omega (arith, good.some)) (digits_in row) g i low

  -- a piece: the digit that `by` lies inside, and the element that it gives behind i of the piece
  pub piece_power : (powers : List (List ℕ)) (d by i : ℕ) → powers ≡ fours_of 16 → d ≡ get_or (digits_in row) (by / 4 % (2 * length row)) 0 → by % 4 + i < 4
      → get_or (get_or powers d []) (by % 4 + i) 0 ≡ element_in row (i + 1 + by)
  piece_power powers d by i p e h =
      let same : by % 4 + i + 1 + 4 * (by / 4) ≡ i + 1 + by = omega arith in
      power_at powers d (by % 4 + i) p (digit_low row _ d e) h
      ∙ ap (λ (k : ℕ). power_in k (by % 4 + i + 1)) e
      ∙ sym (in_digit (by / 4) (by % 4 + i + 1) (omega arith) (omega arith))
      ∙ ap (element_in row) same

  -- and all elements of such a piece
  pub piece_of : (powers : List (List ℕ)) (d by count : ℕ) → powers ≡ fours_of 16 → d ≡ get_or (digits_in row) (by / 4 % (2 * length row)) 0 → by % 4 + count ≤ 4
      → take (by % 4 + count - by % 4) (drop (by % 4) (get_or powers d [])) ≡ run (λ (i : ℕ). element_in row (i + by)) count
  unfolding four_of
  piece_of powers d by count p e h =
      let a = by % 4 in
      let n = a + count - a in
      let few : n ≡ count = omega arith in
      let four = run (λ (k : ℕ). power_in d k) 4 in
      let size : length (take n (drop a four)) ≡ n = length-take-le n (drop a four) (omega (arith, length-drop a four, run_length (λ (k : ℕ). power_in d k) 4)) in
      ap (λ (t : List (List ℕ)). take n (drop a (get_or t d []))) p
      ∙ ap (λ (l : List ℕ). take n (drop a l)) (fours_at 16 d (digit_low row _ d e))
      ∙ run_part (λ (k : ℕ). power_in d k) 4 a n count (omega arith) (sym (size ∙ few))
      ∙ run_alike _ _ count
      (λ i low high.
      let same : i + a + 4 * (by / 4) ≡ i + by = omega arith in
      ap (λ (k : ℕ). power_in k (i + a)) e ∙ sym (in_digit (by / 4) (i + a) (omega arith) (omega arith)) ∙ ap (element_in row) same)

  -- a whole digit, behind k of a stretch that begins at digit g
  pub digit_turn : (g k d : ℕ) (lent out part : List ℕ) → g + k < 2 * length row → d ≡ get_or (digits_in row) (g + k) 0 → out ≡ elements_after row (4 * g) (4 * k) lent
      → part ≡ four_of d ++ drop 4 (rest (4 * k) out) → put_back (4 * k) out part ≡ elements_after row (4 * g) (4 * (k + 1)) lent
  unfolding four_of
  digit_turn g k d lent out part h e so_far p =
      let next : 4 * k + 4 ≡ 4 * (k + 1) = omega arith in
      run_behind (λ (i : ℕ). element_in row (i + 4 * g)) (λ (i : ℕ). power_in d i) (4 * k) 4 lent out part so_far p
      (λ i low high.
      let same : i + 4 * (g + k) ≡ i + 4 * k + 4 * g = omega arith in
      ap (λ (x : ℕ). power_in x i) (e ∙ ap (λ (x : ℕ). get_or (digits_in row) x 0) (sym (mod-eq_of_lt h))) ∙ sym (in_digit (g + k) i low high) ∙ ap (element_in row) same)
      ∙ ap (λ (n : ℕ). elements_after row (4 * g) n lent) next

  -- a stretch of digits, behind `done` of a row's digits from digit g on
  pub stretch_turn : (g at done some : ℕ) (lent out part : List ℕ) → at ≡ (g + done) % (2 * length row) → out ≡ elements_after row (4 * g) (4 * done) lent
      → part ≡ elements_after row (4 * at) (4 * some) (rest (4 * done) out) → put_back (4 * done) out part ≡ elements_after row (4 * g) (4 * (done + some)) lent
  stretch_turn g at done some lent out part e so_far p =
      let next : 4 * done + 4 * some ≡ 4 * (done + some) = omega arith in
      run_behind (λ (i : ℕ). element_in row (i + 4 * g)) (λ (i : ℕ). element_in row (i + 4 * at)) (4 * done) (4 * some) lent out part so_far p
      (λ i low high.
      let same : i + 4 * (g + done) ≡ i + 4 * done + 4 * g = omega arith in
      ap (λ (x : ℕ). element_in row (i + 4 * x)) e ∙ again (g + done) i low ∙ ap (element_in row) same)
      ∙ ap (λ (n : ℕ). elements_after row (4 * g) n lent) next

-- the lesser of two numbers is one of them
pub lesser_of : (some m n : ℕ) → some ≡ min m n → (some ≡ m) ⊎ (some ≡ n)
lesser_of some m n e =
    ⊎_elim
    (λ (l : m < n). let first : some ≡ m = omega arith in inl first)
    (λ (g : n ≤ m). let second : some ≡ n = omega arith in inr second)
    (below_or_not m n)

-- a stretch goes up to the row's end, or is the last: behind it the row's first digit comes, wherever there is more to do
module _ (all g at done some digits : ℕ) (inside : at < all) (more : done < digits) (either : (some ≡ all - at) ⊎ (some ≡ digits - done)) where
  pub some_done : 1 ≤ some
  some_done = ⊎_elim (λ (e : some ≡ all - at). omega arith) (λ (e : some ≡ digits - done). omega arith) either

  pub first_again : at ≡ (g + done) % all → done + some < digits → 0 ≡ (g + (done + some)) % all
  first_again e left =
      ⊎_elim
      (λ (end : some ≡ all - at).
      let turn : (g + done) % all + some ≡ all = omega arith in
      let same : g + done + some ≡ g + (done + some) = omega arith in
      sym (mod_self all) ∙ ap (λ (n : ℕ). n % all) (sym turn) ∙ mod-add-mod (g + done) all some ∙ ap (λ (n : ℕ). n % all) same)
      (λ (last : some ≡ digits - done). absurd (omega arith))
      either

-- a run in three parts: `first` elements of a digit that was begun and has `left` more, then whole digits, then what is left of the count
module _ (row : List ℕ) (by count left first : ℕ) (begun : left ≡ (4 - by % 4) % 4) (least : first ≡ min left count) where
  abbrev whole : ℕ
  whole = (count - first) / 4

  -- the first whole digit begins where the first piece ends
  begins : 1 ≤ whole → 4 * ((by + first) / 4) ≡ by + first
  begins h = let e : first ≡ left = omega arith in omega (arith, begun)

  pub whole_digits : (lent out part : List ℕ) → out ≡ elements_after row by first lent → part ≡ elements_after row (4 * ((by + first) / 4)) (4 * whole) (rest first out)
      → put_back first out part ≡ elements_after row by (first + 4 * whole) lent
  whole_digits lent out part so_far p =
      run_behind (λ (i : ℕ). element_in row (i + by)) (λ (i : ℕ). element_in row (i + 4 * ((by + first) / 4))) first (4 * whole) lent out part so_far p
      (λ i low high.
      let same : i + 4 * ((by + first) / 4) ≡ i + first + by = omega (arith, begins (omega arith)) in
      ap (element_in row) same)

  -- what is left is a piece of one digit
  pub last_piece : (by + (first + 4 * whole)) % 4 + (count - (first + 4 * whole)) ≤ 4
  last_piece = omega (arith, begun)

  pub room_behind : (lent out : List ℕ) → count ≤ length lent → out ≡ elements_after row by (first + 4 * whole) lent → count - (first + 4 * whole) ≤ length (rest (first + 4 * whole) out)
  room_behind lent out room so_far =
      let same : length out ≡ length lent = ap length so_far ∙ run_fits _ (first + 4 * whole) lent (omega arith) in
      omega (arith, rest_length (first + 4 * whole) out)

  pub piece_behind : (lent out part : List ℕ) → out ≡ elements_after row by (first + 4 * whole) lent
      → part ≡ elements_after row (by + (first + 4 * whole)) (count - (first + 4 * whole)) (rest (first + 4 * whole) out) → put_back (first + 4 * whole) out part ≡ elements_after row by count lent
  piece_behind lent out part so_far p =
      let done = first + 4 * whole in
      let all : done + (count - done) ≡ count = omega arith in
      run_behind (λ (i : ℕ). element_in row (i + by)) (λ (i : ℕ). element_in row (i + (by + done))) done (count - done) lent out part so_far p
      (λ i low high. let same : i + (by + done) ≡ i + done + by = omega arith in ap (element_in row) same)
      ∙ ap (λ (n : ℕ). elements_after row by n lent) all

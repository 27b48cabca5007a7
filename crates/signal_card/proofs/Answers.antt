-- What each `return` of the two calls answers, over plain values. Cited by the proofs of at_any_level, pair and pairs, and by the crates facts and clean_copies.
-- Assumes nothing.
use mathlib.Core.Path.{◌≡◌, sym, ap, ◌∙◌}
use mathlib.Core.Bool.{false}
use mathlib.Core.List.{List, [], ◌++◌}
use Prim.Native.Nat.{ℕ, ◌+◌, ◌*◌, ◌<◌, ◌≤◌}
use native.Mathlib.Omega.{arith}
use lib.Dec.{ltb}
use lib.ListN.{length, take, drop, get_or, length-append, get_or-append}
use lib.Seq.{take_at}
use lib.Ieee.{Float}
use borrow.Author.Tests.{ltb-false}
use Rattle.laws.specs.Runs.{run}
use Rattle.laws.proofs.Bools.{or_false}
use Rattle.laws.proofs.Runs.{run_length, run_at}
use Rattle.refusals.specs.declared.Refusal.{Refusal}
use Rattle.refusals.specs.Refusals.{Refusals, refused, answered, ◌leaving◌, first_of, number_of}
use Rattle.refusals.proofs.First.{first_none, append_refused, append_passes, append_front, answer_given, answer_refusal, leaving_given}
use Rattle.conditions.specs.Conditions.{bad_level, too_short}
use Rattle.tables.specs.Tables.{user_refusals}
use Rattle.codes.specs.Codes.{code_of, shift_of}
use Rattle.elements.specs.Elements.{rows_of, element}
use Rattle.midambles.specs.TrainingSequences.{chip_of, chips_of}
use Rattle.midambles.specs.Calls.{chip_refusals, chip_answer}
use Rattle.midambles.proofs.Answers.{user_numbered, chip_numbered, answer_number}
use Rattle.signal_card.specs.SignalCard.{floats_of}
use Rattle.signal_card.proofs.Parts.{element_below}
use Rattle.signal_card.specs.Calls.{pairs_refusals, pairs_outcome}

-- a level that is not refused
pub level_inside : (a : ℕ) → bad_level a ≡ false → (1 ≤ a) × (a ≤ 2047)
unfolding bad_level
level_inside a e =
    let inside = or_false (ltb a 1) (ltb 2047 a) e in
    (ltb-false a 1 inside.0, ltb-false 2047 a inside.1)

-- one chip: r is the refusal of the chip, p its power of j
module _ (cell burst count user i : ℕ) where
  abbrev chips : Refusals
  chips = chip_refusals cell burst count user i

  pub chip_refused : (r : Refusal) (u : Refusals) → refused (number_of r) ≡ chip_answer cell burst count user i → first_of (chips ++ u) ≡ number_of r
  unfolding chip_answer
  chip_refused r u e =
      let g = answer_refusal (first_of chips) (chip_of cell burst user i) (number_of r) (sym e) in
      append_refused chips u g.1 ∙ g.0

  pub chip_passed : (p : ℕ) (u : Refusals) → answered p ≡ chip_answer cell burst count user i → first_of (chips ++ u) ≡ first_of u
  unfolding chip_answer
  chip_passed p u e = append_passes chips u (chip_numbered cell burst count user i) (answer_given (first_of chips) (chip_of cell burst user i) p (sym e)).0

  pub power_is : (p : ℕ) → answered p ≡ chip_answer cell burst count user i → chip_of cell burst user i ≡ p
  unfolding chip_answer
  power_is p e = (answer_given (first_of chips) (chip_of cell burst user i) p (sym e)).1

  pub power_low : (p : ℕ) → answered p ≡ chip_answer cell burst count user i → p < 4
  unfolding chip_of
  power_low p e =
      let is = power_is p e in
      let below : chip_of cell burst user i < 4 = element_below (code_of burst).period (get_or (rows_of burst) cell []) (i + shift_of (code_of burst) user) in
      omega arith

-- a row of which nothing is refused: its user, its room and its level are good
pub row_good : (cell burst count user a : ℕ) (out : List Float) → first_of (pairs_refusals cell burst count user a out) ≡ 0
    → (first_of (user_refusals cell burst count user) ≡ 0) × (too_short (2 * (code_of burst).length) out ≡ false) × (bad_level a ≡ false)
unfolding pairs_refusals
row_good cell burst count user a out z =
    let t = user_refusals cell burst count user in
    let k = user_numbered cell burst count user in
    let front = append_front t _ k z in
    let room = first_none 10 (too_short (2 * (code_of burst).length) out) _ (sym (append_passes t _ k front) ∙ z) in
    (front, room.0, (first_none 21 (bad_level a) [] room.1).0)

-- a row that was filled: nothing was refused, and it begins with the floats of the user's chips
pub pairs_given : (cell burst count user a n : ℕ) (out left : List Float) → pairs_outcome cell burst count user a out ≡ (answered n leaving left)
    → (first_of (pairs_refusals cell burst count user a out) ≡ 0) × (floats_of a (chips_of cell burst user) ++ drop (2 * (code_of burst).length) out ≡ left)
unfolding pairs_outcome
pairs_given cell burst count user a n out left e = let w = leaving_given _ _ _ out _ left e in (w.0, w.2)

-- each chip of a row that elements were written into is a power of j
pub filled_below : (P by n : ℕ) (row rest l : List ℕ) → l ≡ run (λ (i : ℕ). element P row (i + by)) n ++ rest → (k : ℕ) → k < n → get_or l k 0 < 4
filled_below P by n row rest l e k h =
    let f : ℕ → ℕ = λ i. element P row (i + by) in
    let below : f (k + 1) < 4 = element_below P row (k + 1 + by) in
    let same : get_or l k 0 ≡ f (k + 1) =
    ap (λ (x : List ℕ). get_or x k 0) e ∙ get_or-append (run f n) rest 0 k (omega (arith, run_length f n)) ∙ run_at f n k h in
    omega (arith, same, below)

-- a row that a run was written into is as long as the run, at the least
pub run_room : (f : ℕ → ℕ) (n : ℕ) (rest l : List ℕ) → l ≡ run f n ++ rest → n ≤ length l
run_room f n rest l e = omega (arith, ap (λ (x : List ℕ). length x) e, length-append (run f n) rest, run_length f n)

-- of chips that were filled in at the user's shift, those that a midamble has are the user's
pub chips_taken : (cell burst user by n : ℕ) (l rest : List ℕ) → by ≡ shift_of (code_of burst) user → n ≡ (code_of burst).length
    → l ≡ run (λ (i : ℕ). element (code_of burst).period (get_or (rows_of burst) cell []) (i + by)) (code_of burst).length ++ rest → take n l ≡ chips_of cell burst user
unfolding chips_of chip_of
chips_taken cell burst user by n l rest w m f =
    let L = (code_of burst).length in
    let filled = run (λ (i : ℕ). element (code_of burst).period (get_or (rows_of burst) cell []) (i + by)) L in
    ap (λ (k : ℕ). take k l) m
    ∙ ap (λ (x : List ℕ). take L x) f
    ∙ take_at filled rest L (run_length _ L)
    ∙ ap (λ (k : ℕ). run (λ (i : ℕ). element (code_of burst).period (get_or (rows_of burst) cell []) (i + k)) L) w

-- what the search is handed
pub ruleset pair_steps = (chip_refused, chip_passed, power_is, power_low, answer_number)

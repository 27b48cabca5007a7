-- Document 01, "Training sequences": "The last element read is 939 (long) or 416 (short)", which no
-- answered question goes beyond and one reads, and "The users above K' exist only when the count is
-- 16 (or 6)". No function's proof cites it: it is for the reader. Assumes nothing.
use mathlib.Core.Path.{◌≡◌, refl, sym, ap, ◌∙◌}
use mathlib.Core.Bool.{Bool, true, false, cond, ◌||◌}
use mathlib.Core.List.{List, [], ◌∷◌, ◌++◌}
use mathlib.Core.Logic.{◌↔◌, ⊎_elim}
use Prim.Native.Nat.{ℕ, suc, ◌+◌, ◌*◌, ◌<◌, ◌≤◌}
use native.Mathlib.Omega.{arith}
use lib.Dec.{eqb, ltb, lit≤}
use borrow.Author.Tests.{ltb-false, not-false}
use Rattle.laws.proofs.Bools.{or_false}
use Rattle.refusals.specs.Refusals.{first_of, answer, answered}
use Rattle.refusals.proofs.First.{first_none, first_passes, append_none, append_passes}
use Rattle.refusals.proofs.First.{answer_answered}
use Rattle.conditions.specs.Conditions.{bad_cell, bad_type, bad_count, bad_user}
use Rattle.conditions.specs.Conditions.{bad_midamble_chip, too_short}
use Rattle.conditions.proofs.Counts.{count_given}
use Rattle.tables.specs.Tables.{user_refusals}
use Rattle.codes.specs.Codes.{short, long, code_of, shift_of, permitted}
use Rattle.codes.proofs.Numbers.{last_of, reads_within, last_elements}
use Rattle.codes.proofs.Permitted.{user_low, setting, permitted_all}
use Rattle.midambles.specs.TrainingSequences.{chip_of}
use Rattle.midambles.specs.Calls.{chip_refusals, chip_answer, midamble_refusals, midamble_outcome}
use Rattle.refusals.proofs.First.{answer_given}
use Rattle.facts.specs.Orders.{answer_of}
use Rattle.facts.specs.Sequences.{element_read, element_of, last_element}

-- ---- which questions are answered

-- the user of a question that is not refused is permitted
module _ (cell burst count user : ℕ) (e : first_of (user_refusals cell burst count user) ≡ 0) where
  user_given : permitted (code_of burst) count user ≡ true
  unfolding user_refusals bad_user
  user_given =
      let one = first_none 0 (bad_cell cell) _ e in
      let two = first_none 1 (bad_type burst) _ one.1 in
      let three = first_none 2 (bad_count burst count) _ two.1 in
      not-false _ (first_none 3 (bad_user burst count user) [] three.1).0

-- a question of cell and type that pass 1 and 2, and of the whole count 2K'
module _ (cell burst : ℕ) (one : bad_cell cell ≡ false) (two : bad_type burst ≡ false) where
  abbrev full : ℕ
  full = 2 * (code_of burst).base

  full_passes : (user : ℕ) → 1 ≤ user → user ≤ full
      → first_of (user_refusals cell burst full user) ≡ 0
  unfolding user_refusals first_of bad_user
  full_passes user low high =
      let given = permitted_all (code_of burst) user low high in
      rw (one, two, count_given burst full user given, given) refl

  -- with one refusal behind them that does not hold either: 10 of a chip, 11 of a whole midamble
  full_passes_with : (user n : ℕ) (last : Bool) → 1 ≤ user → user ≤ full → last ≡ false
      → first_of (user_refusals cell burst full user ++ ((n, last) ∷ [])) ≡ 0
  unfolding user_refusals first_of
  full_passes_with user n last low high e =
      let t = user_refusals cell burst full user in
      append_passes t ((n, last) ∷ []) tt (full_passes user low high) ∙ first_passes n last [] e

-- ---- the last element

last_of_lem : (burst : ℕ) → last_of (code_of burst) ≡ last_element burst
unfolding code_of last_element
last_of_lem burst = by (eqb burst 2)
  where
    by : (b : Bool) → last_of (cond b short long) ≡ cond b 416 939
    by true = last_elements.1
    by false = last_elements.0

module _ (cell burst count user i p : ℕ)
    (given : chip_answer cell burst count user i ≡ answered p) where
  told : (first_of (chip_refusals cell burst count user i) ≡ 0) × (chip_of cell burst user i ≡ p)
  unfolding chip_answer
  told = answer_given _ _ p given

  passes : (first_of (user_refusals cell burst count user) ≡ 0)
      × (bad_midamble_chip (code_of burst).length i ≡ false)
  unfolding chip_refusals user_refusals
  passes = append_none (user_refusals cell burst count user) 9 _ tt told.0

  -- a question that is answered reads this element of the cell's row
  pub chip_reads : p ≡ element_of cell burst (element_read burst user i)
  unfolding chip_of element_of element_read
  chip_reads = sym told.1

  -- which is none beyond the last
  pub reads_to_last : element_read burst user i ≤ last_element burst
  unfolding bad_midamble_chip element_read
  reads_to_last =
      let inside = or_false (ltb i 1) (ltb (code_of burst).length i) passes.1 in
      let given = user_given cell burst count user passes.0 in
      let low = user_low (code_of burst) count user given in
      rw (← last_of_lem burst) (reads_within (code_of burst) user i low (ltb-false _ i inside.1))

-- and the last is read, in every cell and with every type: by the last chip of the last user
module _ (cell burst : ℕ) (one : bad_cell cell ≡ false) (two : bad_type burst ≡ false) where
  abbrev last_user : ℕ
  last_user = 2 * (code_of burst).base

  abbrev last_chip : ℕ
  last_chip = (code_of burst).length

  pub last_element_lem : element_read burst last_user last_chip ≡ last_element burst
  unfolding element_read code_of shift_of last_element
  last_element_lem = by (eqb burst 2)
    where
      by : (b : Bool) → (let c = cond b short long in
          c.length + shift_of c (2 * c.base)) ≡ cond b 416 939
      by true = refl
      by false = refl

  chip_inside : (1 ≤ last_user) × (bad_midamble_chip last_chip last_chip ≡ false)
  unfolding bad_midamble_chip code_of
  chip_inside = by (eqb burst 2)
    where
      by : (b : Bool) → let c = cond b short long in
          (1 ≤ 2 * c.base) × ((ltb c.length 1 || ltb c.length c.length) ≡ false)
      by true = (lit≤ tt, refl)
      by false = (lit≤ tt, refl)

  pub last_is_read : chip_answer cell burst last_user last_user last_chip
      ≡ answered (element_of cell burst (last_element burst))
  unfolding chip_answer chip_refusals chip_of element_of element_read
  last_is_read =
      let here = chip_inside in
      let high : last_user ≤ last_user = omega arith in
      answer_answered _ _
      (full_passes_with cell burst one two last_user 10 _ here.0 high here.1)
      ∙ ap (λ (n : ℕ). answered (element_of cell burst n)) last_element_lem

-- ---- the users above K'

module _ (cell burst count user : ℕ) (above : (code_of burst).base < user) where
  -- "The users above K' exist only when the count is 16 (or 6)."
  pub above_only : first_of (user_refusals cell burst count user) ≡ 0
      → (count ≡ 2 * (code_of burst).base) × (user ≤ 2 * (code_of burst).base)
  above_only e =
      ⊎_elim (λ all. all)
      (⊎_elim (λ f. absurd (omega (arith, f.1))) (λ o. absurd (omega (arith, o.1.0))))
      (setting (code_of burst) count user (user_given cell burst count user e))

-- and with that count they do, K' + 1 to 2K': where nothing else is refused, such a user is
-- answered exactly then
module _ (cell burst count user : ℕ) (one : bad_cell cell ≡ false) (two : bad_type burst ≡ false)
    (above : (code_of burst).base < user) where
  abbrev Exists : Type 0
  Exists = (count ≡ 2 * (code_of burst).base) × (user ≤ 2 * (code_of burst).base)

  exists : (n : ℕ) (last : Bool) (value : ℕ) → last ≡ false
      → (let t = user_refusals cell burst count user ++ ((suc n, last) ∷ []) in
      (given : ℕ) × (answer (first_of t) value ≡ answered given)) ↔ Exists
  unfolding user_refusals
  exists n last value e = (
    λ g.
        let z = (answer_given _ value g.0 g.1).0 in
        let none = (append_none (user_refusals cell burst count user) n last tt z).0 in
        above_only cell burst count user above none,
    λ g.
        let z = full_passes_with cell burst one two user (suc n) last (omega arith) g.1 e in
        (value, answer_answered _ value (rw g.0 z)),
  )

  pub chip_above : (i : ℕ) → bad_midamble_chip (code_of burst).length i ≡ false
      → ((p : ℕ) × (chip_answer cell burst count user i ≡ answered p)) ↔ Exists
  unfolding chip_answer chip_refusals
  chip_above i ten = exists 9 _ _ ten

  pub midamble_above : (out : List ℕ) → too_short (code_of burst).length out ≡ false
      → ((n : ℕ) × (answer_of (midamble_outcome cell burst count user out) ≡ answered n)) ↔ Exists
  unfolding answer_of midamble_outcome midamble_refusals
  midamble_above out eleven = exists 10 _ _ eleven

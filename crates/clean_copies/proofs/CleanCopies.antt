-- Document 02, C-18: "A clean copy of a permitted user at level 1 to 2047 is answered as that user, wherever no other permitted user's midamble is a power of j times
-- it": of every row that begins with the copy, and of one that `pairs` has filled (C-12). No function's proof cites it: it is for the reader. Assumes nothing.
use mathlib.Core.Path.{◌≡◌, refl, sym, ap, ◌∙◌}
use mathlib.Core.Bool.{true, false}
use mathlib.Core.List.{List, [], ◌++◌}
use Prim.Native.Nat.{ℕ, zero, suc, ◌*◌, ◌<◌, ◌≤◌}
use native.Mathlib.Nat.{mul-pos}
use native.Mathlib.Omega.{arith}
use lib.Dec.{lit≤}
use lib.IntN.{ℤ, pos}
use lib.Ieee.{Float}
use borrow.Author.Tests.{not-false}
use Rattle.std.specs.Prelude.{Result, Ok}
use Rattle.refusals.specs.declared.Refusal.{Refusal}
use Rattle.refusals.specs.Refusals.{answered, ◌leaving◌, first_of, said, said_as}
use Rattle.refusals.proofs.Numbers.{said_as_once}
use Rattle.refusals.proofs.First.{first_none, answer_answered}
use Rattle.conditions.specs.Conditions.{bad_cell, bad_type, bad_count, bad_user}
use Rattle.tables.specs.Tables.{user_refusals}
use Rattle.codes.specs.Codes.{code_of, permitted}
use Rattle.codes.proofs.Numbers.{of_codes}
use Rattle.codes.proofs.Permitted.{user_low}
use Rattle.midambles.specs.TrainingSequences.{chip_of, chips_of}
use Rattle.signal_card.specs.SignalCard.{pair_of, f32_of, floats_of}
use Rattle.signal_card.specs.Calls.{pairs_outcome}
use Rattle.signal_card.proofs.Answers.{level_inside, row_good, pairs_given}
use Rattle.correlation.specs.Correlation.{sample_at, real_sum, imaginary_sum}
use Rattle.hearing.specs.Hearing.{strength}
use Rattle.hearing.specs.Calls.{somebody, hear_refusals, heard_of, who_is_heard, hear_answer, heard_meant}
use Rattle.hearing.specs.declared.Heard.{Heard}
use Rattle.hearing.specs.declared.Heard.TheVariants as heard
use Rattle.hearing.proofs.Unique.{heard_meant_once}
use Rattle.clean_copies.specs.CleanCopies.{Alone}
use Rattle.clean_copies.proofs.WhoIsHeard.{user_high}
use Rattle.clean_copies.proofs.Loudest.{heard_best}
use Rattle.clean_copies.proofs.Sums.{own_real, own_imaginary, own_strength, other_strength}
use Rattle.clean_copies.proofs.Rows.{long_enough, good_samples, reads_chips}

-- ---- who is asked

-- what the refusals 1 to 4 leave
record Good (cell burst count user : ℕ) : Type 0 where
  cell_good : bad_cell cell ≡ false
  type_good : bad_type burst ≡ false
  count_good : bad_count burst count ≡ false
  user_good : permitted (code_of burst) count user ≡ true

good : (cell burst count user : ℕ) → first_of (user_refusals cell burst count user) ≡ 0 → Good cell burst count user
unfolding user_refusals bad_user
good cell burst count user e =
    let one = first_none 0 (bad_cell cell) _ e in
    let two = first_none 1 (bad_type burst) _ one.1 in
    let three = first_none 2 (bad_count burst count) _ two.1 in
    let four = first_none 3 (bad_user burst count user) [] three.1 in
    record { cell_good = one.0; type_good = two.0; count_good = three.0; user_good = not-false _ four.0 }

-- a midamble has chips, so its user is heard
some_chips : (burst : ℕ) → 1 ≤ (code_of burst).length
some_chips = of_codes (λ c. 1 ≤ c.length) (lit≤ tt) (lit≤ tt)

-- whoever is heard is answered with both sums
heard_of_lem : (cell burst : ℕ) (row : List Float) (user : ℕ) (x y : ℤ) → 1 ≤ user → real_sum cell burst row user ≡ x → imaginary_sum cell burst row user ≡ y
    → heard_of cell burst row user ≡ somebody user (f32_of x) (f32_of y)
unfolding heard_of
heard_of_lem cell burst row zero x y h p q = absurd (omega arith)
heard_of_lem cell burst row (suc k) x y h p q = λ i. somebody (suc k) (f32_of (p i)) (f32_of (q i))

-- ---- the theorem

module _ (cell burst count user level : ℕ) (known : first_of (user_refusals cell burst count user) ≡ 0) (low : 1 ≤ level) (high : level ≤ 2047)
    (row rest : List Float) (front : row ≡ floats_of level (chips_of cell burst user) ++ rest) where
  given : Good cell burst count user
  given = good cell burst count user known

  first : 1 ≤ user
  first = user_low (code_of burst) count user given.user_good

  nothing_refused : first_of (hear_refusals cell burst count row) ≡ 0
  unfolding hear_refusals first_of
  nothing_refused =
      let long = long_enough level high cell burst user row rest front in
      let fine = good_samples level high cell burst user row rest front in
      rw (given.cell_good, given.type_good, given.count_good, long, fine) refl

  copy : (i : ℕ) → 1 ≤ i → i ≤ (code_of burst).length → sample_at row i ≡ pair_of level (chip_of cell burst user i)
  copy = reads_chips level high cell burst user row rest front

  own : strength cell burst row user ≡ level * (code_of burst).length * (level * (code_of burst).length)
  own = own_strength cell burst user level row copy first

  -- every other permitted user is heard less
  abbrev Loudest : Type 0
  Loudest = (l : ℕ) → permitted (code_of burst) count l ≡ true → (l ≡ user → ⊥) → strength cell burst row l < strength cell burst row user

  is_heard : Loudest → who_is_heard cell burst count row ≡ user
  unfolding who_is_heard strength
  is_heard less =
      let loud = mul-pos low (some_chips burst) in
      heard_best (permitted (code_of burst) count) (strength cell burst row) refl (2 * (code_of burst).base) user
      (user_high burst count user given.user_good)
      given.user_good
      (omega (arith, own, mul-pos loud loud))
      (λ l high may other. less l may other)

  pub heard_clean : Alone cell burst count user → hear_answer cell burst count row ≡ answered (somebody user (f32_of (pos (level * (code_of burst).length))) (f32_of (pos 0)))
  unfolding hear_answer
  heard_clean alone =
      let less : Loudest =
      λ l may other. omega (arith, own, other_strength cell burst user level row copy l (user_low (code_of burst) count l may) low (alone l may other)) in
      answer_answered _ _ nothing_refused
      ∙ ap (λ (k : ℕ). answered (heard_of cell burst row k)) (is_heard less)
      ∙ ap answered (heard_of_lem cell burst row user _ _ first (own_real cell burst user level row copy) (own_imaginary cell burst user level row copy))

-- so a row that `pairs` has filled
module _ (cell burst count user level n : ℕ) (out left : List Float) (filled : pairs_outcome cell burst count user level out ≡ (answered n leaving left)) where
  pub heard_as_filled : Alone cell burst count user → hear_answer cell burst count left ≡ answered (somebody user (f32_of (pos (level * (code_of burst).length))) (f32_of (pos 0)))
  heard_as_filled =
      let parts = pairs_given cell burst count user level n out left filled in
      let fine = row_good cell burst count user level out parts.0 in
      let inside = level_inside level fine.2 in
      heard_clean cell burst count user level fine.0 inside.0 inside.1 left _ (sym parts.1)

-- and over both calls, by what each promises: of a row that `pairs` wrote, `hear` replies with the user whose chips they are
pub heard_as_written : (cell burst count user level n : ℕ) (out left : List Float) (r : Result Heard Refusal)
    → said (Ok n) leaving left ≡ pairs_outcome cell burst count user level out → said_as heard_meant r ≡ hear_answer cell burst count left
    → Alone cell burst count user → r ≡ Ok (heard.User user (f32_of (pos (level * (code_of burst).length))) (f32_of (pos 0)))
heard_as_written cell burst count user level n out left r wrote_it heard-it alone =
    said_as_once heard_meant heard_meant_once r (Ok (heard.User user (f32_of (pos (level * (code_of burst).length))) (f32_of (pos 0))))
    (heard-it ∙ heard_as_filled cell burst count user level n out left (sym wrote_it) alone)

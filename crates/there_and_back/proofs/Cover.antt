-- Document 01, "The parts cover chips 0 to 2559, each chip in exactly one", and "An empty part starts where the part before it ends": of
-- every list of seven spans that `parts` answers. No function's proof cites it: it is for the reader. Assumes nothing.
use mathlib.Core.Path.{◌≡◌, refl, ap}
use mathlib.Core.Logic.{◌↔◌}
use mathlib.Core.List.{List}
use Prim.Native.Nat.{ℕ, suc, ◌+◌, ◌<◌, ◌≤◌}
use native.Mathlib.Omega.{arith}
use lib.ListN.{length, get_or}
use Rattle.refusals.specs.Refusals.{answered}
use Rattle.conditions.specs.declared.Direction.{Direction}
use Rattle.timeslots.specs.Timeslots.{order, spans, part_lengths, SevenParts, seven_parts}
use Rattle.timeslots.specs.Calls.{parts_answer}
use Rattle.there_and_back.proofs.Spans.{start, spans_at, start_first, start_next, Within, holder_within, within_one, within_end}
use Rattle.timeslots.proofs.Sizes.{lengths_total}
use Rattle.timeslots.proofs.Answers.{parts_given}

-- part p of these spans (first chip, length) holds chip chip
pub record Holds (s : List (ℕ × ℕ)) (p chip : ℕ) : Type 0 where
  pub part : p < 7
  pub from : (get_or s p (0, 0)).0 ≤ chip
  pub until : chip < (get_or s p (0, 0)).0 + (get_or s p (0, 0)).1

module _ (ls : List ℕ) (seven : length ls ≡ 7) (p chip : ℕ) where
  holds_within : Holds (spans 0 ls) p chip → Within ls p chip
  holds_within h =
      let e = spans_at ls p (omega (arith, seven, h.part)) in
      record { part = omega (arith, seven, h.part); from = rw e at h.from; until = rw e at h.until }

  within_holds : Within ls p chip → Holds (spans 0 ls) p chip
  within_holds w =
      let e = spans_at ls p (omega (arith, seven, w.part)) in
      record { part = omega (arith, seven, w.part); from = rw e w.from; until = rw e w.until }

module _ (burst : ℕ) (direction : Direction) (factor tfci tpc : ℕ) (s : List (ℕ × ℕ)) (bits : ℕ × ℕ)
    (given : parts_answer burst direction factor tfci tpc ≡ answered (s, bits)) where
  abbrev ls : List ℕ
  ls = part_lengths burst direction factor tfci tpc

  pub seven : length ls ≡ 7
  unfolding part_lengths order
  seven = refl

  pub spans_given : spans 0 ls ≡ s
  unfolding seven_parts
  spans_given = ap (λ (t : SevenParts). t.0) (parts_given burst direction factor tfci tpc (s, bits) given).1

  pub total : start ls (length ls) ≡ 2560
  unfolding part_lengths order start
  total = omega (arith, lengths_total burst direction factor tfci tpc (parts_given burst direction factor tfci tpc (s, bits) given).0)

  -- the chips that lie in some part are the chips 0 to 2559
  pub covered : (chip : ℕ) → (chip < 2560) ↔ ((p : ℕ) × Holds s p chip)
  covered chip =
      rw (← spans_given) (
        λ h. let w = holder_within ls chip (rw total h) in (_, within_holds ls seven _ chip w),
        λ h. rw total at (within_end ls h.0 chip (holds_within ls seven h.0 chip h.1)),
      )

  -- and no two parts share one
  pub once : (p q chip : ℕ) → Holds s p chip → Holds s q chip → p ≡ q
  once p q chip = rw (← spans_given) (λ v w. within_one ls p q chip (holds_within ls seven p chip v) (holds_within ls seven q chip w))

  -- the first part starts at chip 0, and each other, empty or not, where the part before it ends
  pub first : (get_or s 0 (0, 0)).0 ≡ 0
  first = rw (← spans_given, spans_at ls 0 (omega (arith, seven))) (start_first ls)

  pub joined : (p : ℕ) → p < 6 → (get_or s (suc p) (0, 0)).0 ≡ (get_or s p (0, 0)).0 + (get_or s p (0, 0)).1
  joined p h = rw (← spans_given) (rw (spans_at ls (suc p) (omega (arith, seven)), spans_at ls p (omega (arith, seven))) (start_next ls p))

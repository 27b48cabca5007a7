-- What is known once a paging call has answered: none of its refusals held, and what it made. And
-- when `indicator` and `owner` do answer. Cited by the theorems over the calls' answers.
-- Assumes nothing.
use mathlib.Core.Path.{◌≡◌, sym, ◌∙◌}
use mathlib.Core.Bool.{false, ◌||◌}
use mathlib.Core.List.{List, [], ◌∷◌, ◌++◌}
use Prim.Native.Nat.{ℕ, ◌*◌, ◌<◌, ◌≤◌}
use lib.Dec.{ltb}
use lib.ListN.{drop}
use borrow.Author.Tests.{leb-false, lt-leb, le-ltb}
use Rattle.refusals.specs.Refusals.{answered, ◌leaving◌, Refusals, first_of}
use Rattle.refusals.proofs.First.{first_passes, first_none}
use Rattle.refusals.proofs.First.{append_passes, append_front, append_none}
use Rattle.refusals.proofs.First.{answer_answered, answer_given, leaving_given}
use Rattle.conditions.specs.Conditions.{bad_frames, bad_number, bad_bit}
use Rattle.tables.specs.Tables.{pich_refusals}
use Rattle.paging_bits.specs.Inside.{Fits, Holds}
use Rattle.paging.specs.Paging.{half_of, Place, place_of, Owner, owner_at}
use Rattle.paging.specs.Calls.{indicator_refusals, indicator_answer, owner_refusals, owner_answer}
use Rattle.paging.specs.Calls.{frame_refusals, frame_outcome}
use Rattle.paging.proofs.Passed.{pich_numbered, lent_passed}
use Rattle.paging_back.specs.Back.{number_of, bits_of}

module _ (burst L : ℕ) where
  -- the refusals that both calls begin with, and those behind them
  behind : first_of (pich_refusals burst L) ≡ 0 → (rest : Refusals)
      → first_of (pich_refusals burst L ++ rest) ≡ first_of rest
  behind z rest = append_passes (pich_refusals burst L) rest (pich_numbered burst L) z

  -- `indicator`
  pub indicator_given : (F PI : ℕ) (x : Place) → indicator_answer burst L F PI ≡ answered x
      → (first_of (pich_refusals burst L) ≡ 0)
      × (PI < number_of burst L * F)
      × (place_of L (half_of burst) PI ≡ x)
  unfolding indicator_answer indicator_refusals bad_number
  indicator_given F PI x e =
      let g = answer_given _ _ _ e in
      let front = append_front (pich_refusals burst L) _ (pich_numbered burst L) g.0 in
      let frames = first_none 9 _ _ (sym (behind front _) ∙ g.0) in
      let number = first_none 9 _ _ frames.1 in
      (front, leb-false _ _ number.0, g.1)

  pub indicator_answered : (F PI : ℕ) → first_of (pich_refusals burst L) ≡ 0
      → 1 ≤ F → F ≤ 4 → PI < number_of burst L * F
      → indicator_answer burst L F PI ≡ answered (place_of L (half_of burst) PI)
  unfolding indicator_answer indicator_refusals bad_frames bad_number first_of
  indicator_answered F PI z low high below =
      let frames : (ltb F 1 || ltb 4 F) ≡ false = simp (le-ltb F 1 low, le-ltb 4 F high) in
      let number : Refusals = (10, bad_number (number_of burst L) F PI) ∷ [] in
      answer_answered _ _
      (behind z _ ∙ first_passes 10 _ number frames ∙ first_passes 10 _ [] (lt-leb _ _ below))

  -- `owner`
  pub owner_given : (p : ℕ) (o : Owner) → owner_answer burst L p ≡ answered o
      → (first_of (pich_refusals burst L) ≡ 0) × (p < bits_of burst) × (owner_at L (half_of burst) p ≡ o)
  unfolding owner_answer owner_refusals bad_bit
  owner_given p o e =
      let g = answer_given _ _ _ e in
      let none = append_none (pich_refusals burst L) 9 _ (pich_numbered burst L) g.0 in
      (none.0, leb-false _ _ none.1, g.1)

  pub owner_answered : (p : ℕ) → first_of (pich_refusals burst L) ≡ 0 → p < bits_of burst
      → owner_answer burst L p ≡ answered (owner_at L (half_of burst) p)
  unfolding owner_answer owner_refusals bad_bit first_of
  owner_answered p z h = answer_answered _ _ (behind z _ ∙ first_passes 10 _ [] (lt-leb _ _ h))

-- a call on a frame's bytes, which reads `need` of `given` and writes `room` of `out`: it answered
-- n and left `left`
module _ (burst L need : ℕ) (given : List ℕ) (room : ℕ) (made out : List ℕ)
    (n : ℕ) (left : List ℕ) where
  pub record FrameGiven : Type 0 where
    pub none : first_of (pich_refusals burst L) ≡ 0
    pub fit : Fits L (number_of burst L) (half_of burst)
    pub read : Holds given need
    pub lent : Holds out room
    pub number : room ≡ n
    pub memory : made ++ drop room out ≡ left

  pub frame_given : frame_outcome burst L need given room made out ≡ (answered n leaving left)
      → FrameGiven
  frame_given e =
      let m = first_of (frame_refusals burst L need given room out) in
      let told = leaving_given m room n out (made ++ drop room out) left e in
      let z = told.0 in
      let passed =
      lent_passed burst L need given room out z in
      record {
        none = append_front (pich_refusals burst L) _ (pich_numbered burst L) z;
        fit = passed.0;
        read = passed.1;
        lent = passed.2;
        number = told.1;
        memory = told.2;
      }

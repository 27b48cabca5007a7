-- What `page` leaves, over its outcome: at every bit what the bit's owner makes of it, so that an
-- indicator's bits are all 1 or all 0, and `read_page` of it gives the settings again. n and `left`
-- are what `page` answered and left. Assumes nothing.
use mathlib.Core.Path.{◌≡◌, sym, ap, ◌∙◌}
use mathlib.Core.List.{List, ◌++◌}
use mathlib.Core.Logic.{◌↔◌, ⊎_elim}
use Prim.Native.Nat.{ℕ, ◌-◌, ◌<◌}
use native.Mathlib.Omega.{arith}
use lib.ListN.{get_or, drop}
use borrow.Author.Tests.{eq-eqb, ne_eqb}
use Rattle.laws.specs.Runs.{run}
use Rattle.laws.proofs.Cases.{equal_or_not}
use Rattle.refusals.specs.Refusals.{answered, ◌leaving◌}
use Rattle.paging_bits.specs.Bits.{as_bit, burst_of, reading_of}
use Rattle.paging_bits.specs.Inside.{Holds}
use Rattle.paging.specs.Paging.{half_of, Owner, owned}
use Rattle.paging.specs.Calls.{owner_answer, page_outcome, read_page_outcome}
use Rattle.paging_back.specs.Back.{bit_by, number_of, bits_of, Owns}
use Rattle.paging_back.proofs.Given.{FrameGiven, frame_given, owner_given}
use Rattle.paging_back.proofs.Written.{written_by_owner}
use Rattle.paging_back.proofs.Readings.{read_back, there_and_back}
use Rattle.paging_back.proofs.Read.{read_number, read_at}

-- "0 off, any other on": what x says of a setting v
module _ (x v : ℕ) (e : x ≡ as_bit v) where
  off_zero : v ≡ 0 → x ≡ 0
  unfolding as_bit
  off_zero z = e ∙ simp (eq-eqb v 0 z)

  on_one : (v ≡ 0 → ⊥) → x ≡ 1
  unfolding as_bit
  on_one d = e ∙ simp (ne_eqb v 0 d)

  is_on : (x ≡ 1) ↔ (v ≡ 0 → ⊥)
  is_on = (λ one z. omega (arith, off_zero z), on_one)

  is_off : (x ≡ 0) ↔ (v ≡ 0)
  is_off = (
    λ none. ⊎_elim (λ (z : v ≡ 0). z) (λ d. absurd (omega (arith, on_one d))) (equal_or_not v 0),
    off_zero,
  )

module _ (burst L n : ℕ) (settings out left : List ℕ)
    (done : page_outcome burst L settings out ≡ (answered n leaving left)) where
  abbrev N : ℕ
  N = number_of burst L

  abbrev rest : List ℕ
  rest = drop (bits_of burst) out

  given : FrameGiven burst L N settings (bits_of burst) (burst_of L N settings) out n left
  unfolding page_outcome
  given = frame_given _ _ _ _ _ _ _ _ _ done

  -- "244 or 276 bytes"
  pub written_number : n ≡ bits_of burst
  written_number = sym given.number

  -- every bit holds what its owner makes of it, and 0 where it is reserved
  pub written_owner : (p : ℕ) (o : Owner) → owner_answer burst L p ≡ answered o
      → get_or left p 0 ≡ bit_by settings o
  written_owner p o e =
      let f = given.fit in
      let told = owner_given burst L p o e in
      ap (λ (l : List ℕ). get_or l p 0) (sym given.memory)
      ∙ written_by_owner L (half_of burst) N f.low f.whole settings rest p told.1
      ∙ ap (bit_by settings) told.2

  -- "all 1 if on, all 0 if off": of every bit that `owner` answers with q
  module _ (q p : ℕ) (e : Owns burst L q p) where
    written_bit : get_or left p 0 ≡ as_bit (get_or settings q 0)
    unfolding bit_by
    written_bit = written_owner p (owned q) e

    pub written_on : (get_or left p 0 ≡ 1) ↔ (get_or settings q 0 ≡ 0 → ⊥)
    written_on = is_on _ _ written_bit

    pub written_off : (get_or left p 0 ≡ 0) ↔ (get_or settings q 0 ≡ 0)
    written_off = is_off _ _ written_bit

  -- `read_page` of what was left, with room for N bytes, answers N and leaves the settings, 0 or 1
  pub page_read : (room : List ℕ) → Holds room (number_of burst L)
      → (let N = number_of burst L in
      read_page_outcome burst L left room
      ≡ (answered N leaving (run (λ (i : ℕ). as_bit (get_or settings (i - 1) 0)) N ++ drop N room)))
  page_read room h =
      ap (λ (l : List ℕ). read_page_outcome burst L l room) (sym given.memory)
      ∙ there_and_back burst L settings rest room given.none h

  -- and wherever it answers, a reading is 1 exactly where its setting is on, and 0 where it is off
  module _ (m : ℕ) (room heard : List ℕ)
      (read : read_page_outcome burst L left room ≡ (answered m leaving heard))
      (q : ℕ) (h : q < m) where
    heard_setting : get_or heard q 0 ≡ as_bit (get_or settings q 0)
    heard_setting =
        let f = given.fit in
        let one : q < N = omega (arith, read_number burst L m left room heard read) in
        read_at burst L m left room heard read q h
        ∙ ap (λ (l : List ℕ). reading_of L (half_of burst) l q) (sym given.memory)
        ∙ read_back L (half_of burst) N f.low f.whole settings rest q one

    pub heard_on : (get_or heard q 0 ≡ 1) ↔ (get_or settings q 0 ≡ 0 → ⊥)
    heard_on = is_on _ _ heard_setting

    pub heard_off : (get_or heard q 0 ≡ 0) ↔ (get_or settings q 0 ≡ 0)
    heard_off = is_off _ _ heard_setting

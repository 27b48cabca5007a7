-- What the calls do not read: settings behind the first N, bits behind the 244 or 276, reserved
-- bits, and of a byte no more than whether it is 0. Over the outcomes of `page` and `read_page`,
-- answered or refused. Assumes nothing.
use mathlib.Core.Path.{◌≡◌, refl, sym, ap, ◌∙◌}
use mathlib.Core.List.{List, [], ◌∷◌, ◌++◌, map}
use mathlib.Core.Logic.{⊎_elim}
use Prim.Native.Nat.{ℕ, zero, suc, ◌<◌, ◌≤◌}
use native.Mathlib.Omega.{arith}
use lib.ListN.{get_or, take, drop, length, length-take, replicate}
use lib.Seq.{get_or-take}
use borrow.Author.Tests.{lt-ltb, le-ltb}
use Rattle.laws.proofs.Cases.{below_or_not, equal_or_not}
use Rattle.refusals.specs.Refusals.{answered, first_of, answer, after, ◌leaving◌}
use Rattle.refusals.proofs.First.{append_front, after_refused}
use Rattle.conditions.specs.Conditions.{too_short}
use Rattle.tables.specs.Tables.{pich_refusals}
use Rattle.paging_bits.specs.Bits.{as_bit, runs_of, burst_of, readings_of}
use Rattle.paging_bits.specs.Inside.{Holds}
use Rattle.paging.specs.Paging.{carrying_of, half_of, owned}
use Rattle.paging.specs.Calls.{frame_refusals, frame_outcome, page_outcome, read_page_outcome}
use Rattle.paging.proofs.Passed.{fits, pich_numbered}
use Rattle.paging_back.specs.Back.{number_of, bits_of, Owns, bit_at}
use Rattle.paging_back.proofs.Given.{owner_given, owner_answered}
use Rattle.paging_back.proofs.Readings.{none_reserved_read}

-- "244 or 276 bytes"
pub bits_table : map bits_of (1 ∷ 2 ∷ []) ≡ 244 ∷ 276 ∷ []
unfolding half_of carrying_of
bits_table = refl

-- memories with the same first n bytes: both are too short or neither, and each of the n is alike
module _ (n : ℕ) (l l' : List ℕ) (e : take n l ≡ take n l') where
  front_short : too_short n l ≡ too_short n l'
  unfolding too_short
  front_short =
      let s = ap length e in
      let a = length-take n l in
      let b = length-take n l' in
      ⊎_elim (λ (h : length l < n). lt-ltb _ _ h ∙ sym (lt-ltb (length l') n (omega arith)))
      (λ (h : n ≤ length l). le-ltb _ _ h ∙ sym (le-ltb (length l') n (omega arith)))
      (below_or_not (length l) n)

  front_at : (i : ℕ) → i < n → get_or l i 0 ≡ get_or l' i 0
  front_at i h =
      sym (get_or-take n l i 0 h) ∙ ap (λ (m : List ℕ). get_or m i 0) e ∙ get_or-take n l' i 0 h

-- memories that are both long enough
both_long : (n : ℕ) (l l' : List ℕ) → Holds l n → Holds l' n → too_short n l ≡ too_short n l'
unfolding too_short
both_long n l l' h h' = le-ltb _ _ h ∙ sym (le-ltb (length l') n h')

-- a call on a frame's bytes has one outcome for two memories if both are too short or neither, and,
-- unless it is refused, the same is made of both
module _ (burst L need : ℕ) (given given' : List ℕ) (room : ℕ) (made made' out : List ℕ) where
  frame_same : too_short need given ≡ too_short need given'
      → (first_of (pich_refusals burst L) ≡ 0 → made ≡ made')
      → frame_outcome burst L need given room made out
      ≡ frame_outcome burst L need given' room made' out
  frame_same e same =
      let n = first_of (frame_refusals burst L need given' room out) in
      rw e
      (⊎_elim
      (λ (z : n ≡ 0).
      let none = append_front (pich_refusals burst L) _ (pich_numbered burst L) z in
      ap (λ (l : List ℕ). answer n room leaving after n out (l ++ drop room out)) (same none))
      (λ (d : n ≡ 0 → ⊥).
      ap (λ (l : List ℕ). answer n room leaving l)
      (after_refused n out _ d ∙ sym (after_refused n out _ d)))
      (equal_or_not n 0))

-- settings that are on and off alike give the same burst
module _ (L : ℕ) (settings settings' : List ℕ) where
  abbrev Alike : ℕ → Type 0
  Alike n = (q : ℕ) → q < n → as_bit (get_or settings q 0) ≡ as_bit (get_or settings' q 0)

  runs_same : (n : ℕ) → Alike n → runs_of L settings n ≡ runs_of L settings' n
  unfolding runs_of
  runs_same zero h = refl
  runs_same (suc n) h =
      let before = runs_same n (λ q l. h q (omega arith)) in
      ap (λ (l : List ℕ). l ++ replicate L (as_bit (get_or settings n 0))) before
      ∙ ap (λ (b : ℕ). runs_of L settings' n ++ replicate L b) (h n (omega arith))

  burst_same : (N : ℕ) → Alike N → burst_of L N settings ≡ burst_of L N settings'
  unfolding burst_of
  burst_same N h = ap (λ (l : List ℕ). l ++ replicate 4 0 ++ l) (runs_same N h)

module _ (burst L : ℕ) (settings settings' out : List ℕ) where
  -- `page` reads no setting behind the first N: for the same N it answers and leaves the same
  pub settings_beyond : take (number_of burst L) settings ≡ take (number_of burst L) settings'
      → page_outcome burst L settings out ≡ page_outcome burst L settings' out
  unfolding page_outcome
  settings_beyond e =
      let N = number_of burst L in
      let at = front_at N settings settings' e in
      frame_same burst L N settings settings' _ _ _ out (front_short N settings settings' e)
      (λ z. burst_same L settings settings' N (λ q h. ap as_bit (at q h)))

  -- "0 off, any other on": nor more of a setting than whether it is 0
  pub settings_on : Holds settings (number_of burst L) → Holds settings' (number_of burst L)
      → ((q : ℕ) → q < number_of burst L → as_bit (get_or settings q 0) ≡ as_bit (get_or settings' q 0))
      → page_outcome burst L settings out ≡ page_outcome burst L settings' out
  unfolding page_outcome
  settings_on h h' same =
      let N = number_of burst L in
      frame_same burst L N settings settings' _ _ _ out (both_long N settings settings' h h')
      (λ z. burst_same L settings settings' N same)

module _ (burst L : ℕ) (bits bits' out : List ℕ) where
  -- the bits that `owner` gives to some q are the same
  abbrev SameOwned : Type 0
  SameOwned = (q p : ℕ) → Owns burst L q p → bit_at bits p ≡ bit_at bits' p

  readings_same : SameOwned → first_of (pich_refusals burst L) ≡ 0
      → (let H = half_of burst in
      let N = number_of burst L in
      readings_of L N H bits ≡ readings_of L N H bits')
  readings_same same z =
      none_reserved_read L (number_of burst L) (half_of burst) (fits burst L z) bits bits'
      (λ p q h o. same q p (owner_answered burst L p z h ∙ ap answered o))

  -- `read_page` reads no bit behind the 244 or 276: for the same it answers and leaves the same
  pub bits_beyond : take (bits_of burst) bits ≡ take (bits_of burst) bits'
      → read_page_outcome burst L bits out ≡ read_page_outcome burst L bits' out
  unfolding read_page_outcome
  bits_beyond e =
      let n = bits_of burst in
      let same : SameOwned =
      λ q p o. ap as_bit (front_at n bits bits' e p (owner_given burst L p (owned q) o).1) in
      frame_same burst L n bits bits' _ _ _ out (front_short n bits bits' e) (readings_same same)

  -- "a byte other than 0 is 1. Reserved bits are not read": of the 244 or 276 only those that
  -- `owner` gives to some q, and of a byte only whether it is 0
  pub bits_owned : Holds bits (bits_of burst) → Holds bits' (bits_of burst)
      → ((q p : ℕ) → Owns burst L q p → bit_at bits p ≡ bit_at bits' p)
      → read_page_outcome burst L bits out ≡ read_page_outcome burst L bits' out
  unfolding read_page_outcome
  bits_owned h h' same =
      let n = bits_of burst in
      frame_same burst L n bits bits' _ _ _ out (both_long n bits bits' h h') (readings_same same)

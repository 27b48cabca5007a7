-- What `read_page` leaves, over its outcome: a reading is 0 exactly where all bits that `owner`
-- answers with its q are 0, 1 where all are 1, and 2 where two of them differ. n and `left` are
-- what `read_page` answered and left. Cited by the theorems over `page`. Assumes nothing.
use mathlib.Core.Path.{◌≡◌, refl, sym, ap, ◌∙◌}
use mathlib.Core.List.{List}
use mathlib.Core.Logic.{◌⊎◌, inl, inr, ◌↔◌, ⊎_elim}
use Prim.Native.Nat.{ℕ, ◌*◌, ◌<◌, ◌≤◌}
use native.Mathlib.Omega.{arith}
use lib.ListN.{get_or, length, drop, get_or-append}
use Rattle.laws.proofs.Runs.{run_length}
use Rattle.refusals.specs.Refusals.{answered, ◌leaving◌}
use Rattle.paging_bits.specs.Bits.{reading_of, readings_of}
use Rattle.paging_bits.proofs.Counted.{as_bit_cases}
use Rattle.paging.specs.Paging.{half_of, owned}
use Rattle.paging.specs.Calls.{read_page_outcome}
use Rattle.paging_back.specs.Back.{number_of, bits_of, Owns, AllAre, Differ}
use Rattle.paging_back.proofs.Rows.{row_at}
use Rattle.paging_back.proofs.Given.{FrameGiven, frame_given, owner_given, owner_answered}
use Rattle.paging_back.proofs.Readings.{alike_read}
use Rattle.paging_back.proofs.Torn.{Mine, torn_other, read_alike, differ_torn}

module _ (burst L n : ℕ) (bits out left : List ℕ)
    (done : read_page_outcome burst L bits out ≡ (answered n leaving left)) where
  abbrev N : ℕ
  N = number_of burst L

  abbrev H : ℕ
  H = half_of burst

  given : FrameGiven burst L (bits_of burst) bits N (readings_of L N H bits) out n left
  unfolding read_page_outcome
  given = frame_given _ _ _ _ _ _ _ _ _ done

  -- "Reading writes one byte for each q": there are N, and what stands at each
  pub read_number : n ≡ number_of burst L
  read_number = sym given.number

  pub read_at : (q : ℕ) → q < n → get_or left q 0 ≡ reading_of L (half_of burst) bits q
  unfolding readings_of
  read_at q h =
      let row = readings_of L N H bits in
      let l : q < N = omega (arith, read_number) in
      let size : length row ≡ N = run_length _ N in
      ap (λ (m : List ℕ). get_or m q 0) (sym given.memory)
      ∙ get_or-append row (drop N out) 0 q (omega arith) ∙ row_at (reading_of L H bits) N q l

  module _ (q : ℕ) (h : q < n) where
    one : q < N
    one = omega (arith, read_number)

    low : 1 ≤ L
    low = given.fit.low

    whole : N * L ≡ H
    whole = given.fit.whole

    -- a bit that `owner` answers with q
    mine : (p : ℕ) → Owns burst L q p → Mine L H q p
    mine p e = let o = owner_given burst L p (owned q) e in (o.1, o.2)

    owns : (p : ℕ) → Mine L H q p → Owns burst L q p
    owns p m = owner_answered burst L p given.none m.0 ∙ ap answered m.1

    -- v is 0 or 1: a reading is v exactly where all its bits are
    alike : (v : ℕ) → (v ≡ 0) ⊎ (v ≡ 1) → (get_or left q 0 ≡ v) ↔ AllAre burst L q bits v
    unfolding AllAre
    alike v is =
        let at = read_at q h in
        let long = given.read in (
          λ e p o. read_alike L H N low whole bits q one long v is (sym at ∙ e) p (mine p o),
          λ all. at ∙ alike_read L H N low whole bits q v one is (λ p l o. all p (owns p (l, o))),
        )

    -- "0 off": exactly where all its bits are 0
    pub off_all : (get_or left q 0 ≡ 0) ↔ AllAre burst L q bits 0
    off_all = alike 0 (inl refl)

    -- "1 on": exactly where all are 1
    pub on_all : (get_or left q 0 ≡ 1) ↔ AllAre burst L q bits 1
    on_all = alike 1 (inr refl)

    -- "or 2 torn where its bits differ": exactly where two of them do
    pub torn_differ : (get_or left q 0 ≡ 2) ↔ Differ burst L q bits
    unfolding Differ
    torn_differ = (torn, differ)
      where
        torn : get_or left q 0 ≡ 2 → Differ burst L q bits
        torn e =
            let r = sym (read_at q h) ∙ e in
            let (p, m, d) = torn_other L H N low whole bits q one 0 (inl refl) r in
            let (p', m', d') = torn_other L H N low whole bits q one 1 (inr refl) r in
            let v = as_bit_cases (get_or bits p 0) in
            (p, p', owns p m, owns p' m', λ s. ⊎_elim d (λ z. d' (sym s ∙ z)) v)

        differ : Differ burst L q bits → get_or left q 0 ≡ 2
        differ (p, p', o, o', d) =
            read_at q h
            ∙ differ_torn L H N low whole bits q one given.read p p' (mine p o) (mine p' o') d

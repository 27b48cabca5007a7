-- From question to place and back, over the answers of `indicator` and `owner`: the bits of the
-- place that `indicator` answers are those that `owner` answers with its q, and frame and q give
-- the number again. Assumes nothing.
use mathlib.Core.Path.{◌≡◌, sym, ap, ◌∙◌, subst}
use mathlib.Core.Logic.{◌↔◌, ⊎_elim}
use Prim.Native.Nat.{ℕ, ◌+◌, ◌-◌, ◌*◌, ◌/◌, ◌%◌, ◌<◌, ◌≤◌}
use native.Mathlib.Nat.{mod-lt, mul_comm, div-add-mod', div-lt_iff_lt-mul}
use native.Mathlib.Omega.{arith}
use Rattle.laws.proofs.Cases.{below_or_not}
use Rattle.refusals.specs.Refusals.{answered, first_of}
use Rattle.tables.specs.Tables.{pich_refusals}
use Rattle.paging_bits.specs.Bits.{bits_in, per_frame, in_time}
use Rattle.paging_bits.specs.Inside.{Fits}
use Rattle.paging_bits.proofs.OneRun.{run_within}
use Rattle.paging_bits.proofs.Counted.{time_first, time_second}
use Rattle.paging.specs.Paging.{half_of, Bits, Place, place, place_of, reserved, owned}
use Rattle.paging.specs.Calls.{indicator_answer, owner_answer}
use Rattle.paging.proofs.Passed.{fits}
use Rattle.paging_back.specs.Back.{In, Named, q_of, number_of, Lies, Owns}
use Rattle.paging_back.proofs.Owners.{owned_has, owned_placed, placed_owned}
use Rattle.paging_back.proofs.Given.{indicator_given, indicator_answered}
use Rattle.paging_back.proofs.Given.{owner_given, owner_answered}

-- a carrying bit lies within the 244 or 276
time_within : (H b : ℕ) → b < H + H → in_time H b < bits_in H
time_within H b h =
    ⊎_elim (λ (l : b < H). omega (arith, time_first H b l))
    (λ (l : H ≤ b).
    let k : H + (b - H) ≡ b = omega arith in
    omega (arith, time_second H (b - H), ap (in_time H) k))
    (below_or_not b H)

-- so does each that an indicator's place names
placed_within : (L H : ℕ) → Fits L (per_frame L H) H → (PI b : ℕ) → Named b (place_of L H PI)
    → in_time H b < bits_in H
unfolding Named In place_of
placed_within L H f PI b n =
    let ends = run_within L (per_frame L H) (PI % per_frame L H) (mod-lt PI f.some) in
    let whole = f.whole in
    time_within H b (⊎_elim (λ i. omega (arith, i.1, i.2)) (λ i. omega (arith, i.1, i.2)) n)

module _ (burst L F PI frame q : ℕ) (first second : Bits)
    (given : indicator_answer burst L F PI ≡ answered (place frame q first second)) where
  accepts : first_of (pich_refusals burst L) ≡ 0
  accepts = (indicator_given burst L F PI _ given).0

  fit : Fits L (number_of burst L) (half_of burst)
  fit = fits burst L accepts

  told : place_of L (half_of burst) PI ≡ place frame q first second
  told = (indicator_given burst L F PI _ given).2

  same : q_of (place_of L (half_of burst) PI) ≡ q
  unfolding q_of
  same = ap q_of told

  -- `owner` answers that q exactly for the bits, in time order, of the two runs that `indicator`
  -- answers
  pub placed_owner : (p : ℕ) → Owns burst L q p ↔ Lies burst p (place frame q first second)
  unfolding Lies
  placed_owner p = (there, back)
    where
      there : Owns burst L q p → Lies burst p (place frame q first second)
      there e =
          let o = owner_given burst L p (owned q) e in
          subst (λ (x : Place). Lies burst p x) told
          (owned_placed L (half_of burst) fit PI p o.1 (o.2 ∙ ap owned (sym same)))

      back : Lies burst p (place frame q first second) → Owns burst L q p
      back l =
          let H = half_of burst in
          let m = subst (λ (x : Place). Lies burst p x) (sym told) l in
          let within = placed_within L H fit PI m.0 m.1 in
          let mine = placed_owned L H fit PI m.0 m.1 ∙ ap owned same in
          subst (λ (p : ℕ). Owns burst L q p) m.2
          (owner_answered burst L (in_time H m.0) accepts within ∙ ap answered mine)

  -- so a reserved bit lies in no place
  pub reserved_unplaced : (p : ℕ) → owner_answer burst L p ≡ answered reserved
      → Lies burst p (place frame q first second) → ⊥
  reserved_unplaced p e l =
      let o = (placed_owner p).1 l in
      let z : ◌≡◌ {A = ℕ} 0 1 = cc in omega arith

  -- "PI, below N times F, sits in frame PI div N as q = PI mod N": frame and q give PI again
  pub number_again : (frame < F) × (q < number_of burst L) × (PI ≡ frame * number_of burst L + q)
  unfolding place_of
  number_again =
      let N = number_of burst L in
      let t = told in
      let at : PI / N ≡ frame = cc in
      let is : PI % N ≡ q = cc in
      let block : PI < N * F = (indicator_given burst L F PI _ given).1 in
      let below : PI < F * N = omega (arith, mul_comm F N) in
      let frames : PI / N < F = (div-lt_iff_lt-mul fit.some).1 below in (
        omega arith,
        omega (arith, mod-lt PI fit.some),
        sym (div-add-mod' PI N) ∙ ap (λ (x : ℕ). x * N + PI % N) at
            ∙ ap (λ (x : ℕ). frame * N + x) is,
      )

-- so frame and q have one number
pub one_number : (burst L F F' PI PI' frame q : ℕ) (first second first' second' : Bits)
    → indicator_answer burst L F PI ≡ answered (place frame q first second)
    → indicator_answer burst L F' PI' ≡ answered (place frame q first' second') → PI ≡ PI'
one_number burst L F F' PI PI' frame q first second first' second' e e' =
    (number_again burst L F PI frame q first second e).2
    ∙ sym (number_again burst L F' PI' frame q first' second' e').2

module _ (burst L q p : ℕ) (owns : Owns burst L q p) where
  -- an answered owner is one of the N
  pub owner_one : q < number_of burst L
  owner_one =
      let o = owner_given burst L p (owned q) owns in
      let f = fits burst L o.0 in
      (owned_has L (half_of burst) (number_of burst L) f.low f.whole p q o.1 o.2).0

  -- and back: any number that is q in its frame is answered, with a place in which the bit lies
  pub owner_placed : (F PI : ℕ) → 1 ≤ F → F ≤ 4 → PI < number_of burst L * F
      → PI % number_of burst L ≡ q
      → (x : Place) × (indicator_answer burst L F PI ≡ answered x) × (q_of x ≡ q) × (Lies burst p x)
  unfolding Lies q_of place_of
  owner_placed F PI low high below is =
      let o = owner_given burst L p (owned q) owns in
      let f = fits burst L o.0 in (
        place_of L (half_of burst) PI,
        indicator_answered burst L F PI o.0 low high below,
        is,
        owned_placed L (half_of burst) f PI p o.1 (o.2 ∙ ap owned (sym is)),
      )

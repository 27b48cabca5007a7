-- Document 02, C-13: why there is a count for wide harbours. The shifts of two users that one count
-- permits lie apart, also round the period: by half a step under 2K', by a step under K', by two
-- steps under the long count 4. Once over the numbers of a code. It is for the reader. Assumes nothing.
use mathlib.Core.Path.{◌≡◌, refl, ap, ◌∙◌}
use mathlib.Core.Bool.{true}
use mathlib.Core.Logic.{◌⊎◌, inl, inr, ⊎_elim}
use Prim.Native.Nat.{ℕ, ◌+◌, ◌-◌, ◌*◌, ◌<◌, ◌≤◌}
use native.Mathlib.Nat.{mul-le-mul_right, div-add-mod'}
use native.Mathlib.Omega.{arith}
use borrow.Author.Tests.{lt-leb, lt-ltb, le-ltb, eq-eqb, ne_eqb}
use Rattle.laws.proofs.Cases.{below_or_not}
use Rattle.codes.specs.declared.Code.{Code}
use Rattle.codes.specs.Codes.{short, long, code_of, shift_of, permitted}
use Rattle.codes.proofs.Permitted.{All, First, Odd, user_low, one_setting}
use Rattle.facts.specs.Permitted.{Apart, least_apart}
use Rattle.facts.proofs.Apart.{Spaced, spaced, turned_round, steps_apart, low_shift, users_apart}

module _ (c : Code) (sp : Spaced c) where
  -- ---- users up to 2K': so many steps, and half a step more for those above K'

  abbrev Whose : ℕ → ℕ → ℕ → Type 0
  Whose steps more k =
      ((more ≡ 0) × (steps + k ≡ c.base))
      ⊎ ((more ≡ c.half) × (((steps + k + 1 ≡ 2 * c.base) × (c.base < k))
      ⊎ ((k ≡ 2 * c.base) × (steps + 1 ≡ c.base))))

  record Lies (k : ℕ) : Type 0 where
    steps : ℕ
    more : ℕ
    lies : shift_of c k ≡ steps * c.step + more
    few : steps + 1 ≤ c.base
    whose : Whose steps more k

  place : (k : ℕ) → 1 ≤ k → k ≤ 2 * c.base → Lies k
  unfolding shift_of
  place k low high = ⊎_elim above (λ h. below h) (below_or_not c.base k)
    where
      below : k ≤ c.base → Lies k
      below h =
          record {
            steps = c.base - k;
            more = 0;
            lies = low_shift c sp k h;
            few = omega (arith, sp.some);
            whose = inl (refl, omega arith);
          }

      above : c.base < k → Lies k
      above h =
          ⊎_elim
          (λ l.
          record {
            steps = 2 * c.base - k - 1;
            more = c.half;
            lies = simp (lt-leb k c.base h, lt-ltb k (2 * c.base) l) refl;
            few = omega arith;
            whose = inr (refl, inl (omega arith, h));
          })
          (λ l.
          record {
            steps = c.base - 1;
            more = c.half;
            lies = simp (lt-leb k c.base h, le-ltb k (2 * c.base) l) refl;
            few = omega (arith, sp.some);
            whose = inr (refl, inr (omega arith, omega (arith, sp.some)));
          })
          (below_or_not k (2 * c.base))

  more_high : (k : ℕ) (p : Lies k) → p.more ≤ c.half
  more_high k p = ⊎_elim (λ a. omega (arith, a.0)) (λ a. omega (arith, a.0)) p.whose

  -- at least half a step lies between two that have not equally many steps
  half_apart : (k l : ℕ) (p : Lies k) (q : Lies l) → p.steps < q.steps
      → Apart c.period c.half (shift_of c k) (shift_of c l)
  half_apart k l p q up =
      let y = more_high k p in
      let z = more_high l q in
      rw (p.lies, q.lies)
      (steps_apart c sp 1 c.half p.steps q.steps p.more q.more (omega arith) (omega (arith, q.few))
      (omega (arith, y, sp.halves)) (omega (arith, z, sp.halves)))

  -- and exactly half a step between two that have
  same_steps : (k l X : ℕ) → shift_of c k ≡ X * c.step + 0 → shift_of c l ≡ X * c.step + c.half
      → Apart c.period c.half (shift_of c k) (shift_of c l)
  unfolding Apart
  same_steps k l X ek el =
      let one = mul-le-mul_right c.step sp.some in
      rw (ek, el) (
        inl (omega arith),
        (omega arith, omega (arith, one, sp.round, sp.halves)),
      )

  -- two users that have equally many steps are the same, or one of them is up to K' and the other above
  level : (k l : ℕ) (p : Lies k) (q : Lies l) → p.steps ≡ q.steps → (k ≡ l → ⊥)
      → Apart c.period c.half (shift_of c k) (shift_of c l)
  level k l p q e other = by p.whose q.whose
    where
      at : (m : ℕ) (r : Lies m) (x : ℕ) → r.more ≡ x → shift_of c m ≡ r.steps * c.step + x
      at m r x h = r.lies ∙ ap (λ (y : ℕ). r.steps * c.step + y) h

      same : {A : Type 0} → k ≡ l → A
      same h = absurd (other h)

      by : Whose p.steps p.more k → Whose q.steps q.more l
          → Apart c.period c.half (shift_of c k) (shift_of c l)
      by (inl a) (inl b) = same (omega (arith, a.1, b.1))
      by (inl a) (inr b) = same_steps k l p.steps (at k p 0 a.0) (rw e (at l q c.half b.0))
      by (inr a) (inl b) = turned_round _ _ _ _ (same_steps l k p.steps (rw e (at l q 0 b.0)) (at k p c.half a.0))
      by (inr (ha, inl a)) (inr (hb, inl b)) = same (omega (arith, a.0, b.0))
      by (inr (ha, inl a)) (inr (hb, inr b)) = absurd (omega (arith, a.0, a.1, b.0, b.1))
      by (inr (ha, inr a)) (inr (hb, inl b)) = absurd (omega (arith, b.0, b.1, a.0, a.1))
      by (inr (ha, inr a)) (inr (hb, inr b)) = same (omega (arith, a.0, b.0))

  -- ---- under each count

  least_all : (count : ℕ) → count ≡ 2 * c.base → least_apart c count ≡ c.half
  unfolding least_apart
  least_all count e = simp (eq-eqb _ _ e) refl

  least_first : (count : ℕ) → count ≡ c.base → least_apart c count ≡ 1 * c.step
  unfolding least_apart
  least_first count e =
      simp (ne_eqb count (2 * c.base) (λ h. omega (arith, sp.some)), eq-eqb _ _ e) (omega arith)

  least_odd : (count : ℕ) → 2 * count ≡ c.base → least_apart c count ≡ 2 * c.step
  unfolding least_apart
  least_odd count e =
      simp (ne_eqb count (2 * c.base) (λ h. omega (arith, sp.some)), ne_eqb count c.base (λ h. omega (arith, sp.some))) refl

  abbrev Goal : ℕ → ℕ → ℕ → Type 0
  Goal count k l = Apart c.period (least_apart c count) (shift_of c k) (shift_of c l)

  under_all : (count k l : ℕ) → All c count k → All c count l → 1 ≤ k → k < l → Goal count k l
  under_all count k l a b low up =
      rw (least_all count a.0) (by (below_or_not p.steps q.steps))
    where
      p : Lies k
      p = place k low a.1

      q : Lies l
      q = place l (omega arith) b.1

      by : (p.steps < q.steps) ⊎ (q.steps ≤ p.steps)
          → Apart c.period c.half (shift_of c k) (shift_of c l)
      by (inl h) = half_apart k l p q h
      by (inr h) =
          ⊎_elim (λ g. turned_round _ _ _ _ (half_apart l k q p g))
          (λ g. level k l p q (omega arith) (λ e. omega arith)) (below_or_not q.steps p.steps)

  under_first : (count k l : ℕ) → First c count k → First c count l → 1 ≤ k → k < l → Goal count k l
  under_first count k l a b low up =
      rw (least_first count a.0) (users_apart c sp 1 k l b.1 (omega arith) (omega (arith, b.1)))

  -- two odd users are two from each other, and K' is even
  under_odd : (count k l : ℕ) → Odd c count k → Odd c count l → 1 ≤ k → k < l → Goal count k l
  under_odd count k l a b low up =
      let dk = div-add-mod' k 2 in
      let dl = div-add-mod' l 2 in
      rw (least_odd count a.0)
      (users_apart c sp 2 k l b.1.0 (omega (arith, dk, dl, a.1.1, b.1.1))
      (omega (arith, dk, dl, a.0, a.1.1, b.1.0, b.1.1)))

  -- the two users in their order
  in_order : (count k l : ℕ) → permitted c count k ≡ true → permitted c count l ≡ true → k < l
      → Goal count k l
  in_order count k l here there up =
      let low = user_low c count k here in
      ⊎_elim (λ all. under_all count k l all.0 all.1 low up)
      (⊎_elim (λ first. under_first count k l first.0 first.1 low up)
      (λ odd. under_odd count k l odd.0 odd.1 low up))
      (one_setting c count k l sp.some here there)

-- the law: of two users that a count permits
pub shifts_apart : (burst count k l : ℕ) → permitted (code_of burst) count k ≡ true
    → permitted (code_of burst) count l ≡ true → (k ≡ l → ⊥)
    → (let c = code_of burst in Apart c.period (least_apart c count) (shift_of c k) (shift_of c l))
shifts_apart burst count k l here there other =
    let c = code_of burst in
    let sp = spaced burst in
    ⊎_elim (in_order c sp count k l here there)
    (λ h. turned_round _ _ _ _ (in_order c sp count l k there here (omega (arith, other))))
    (below_or_not k l)

-- in numbers: 114, 57 and 28 elements for the long counts 4, 8 and 16, 64 and 32 for the short ones 3 and 6
pub least_apart_lem : (least_apart long 4 ≡ 114) × (least_apart long 8 ≡ 57) × (least_apart long 16 ≡ 28)
    × (least_apart short 3 ≡ 64) × (least_apart short 6 ≡ 32)
unfolding least_apart
least_apart_lem = (refl, refl, refl, refl, refl)

-- The two calls agree, and every symbol has its number of chips: a chip is answered with a part and a number exactly when it lies in the
-- span that `parts` answers for that part, in the symbol (in midamble and guard: at the offset) of that number. Assumes nothing.
use mathlib.Core.Path.{◌≡◌, refl, sym, ap, ◌∙◌}
use mathlib.Core.Logic.{◌↔◌}
use mathlib.Core.List.{List, [], ◌∷◌, map}
use Prim.Native.Nat.{ℕ, suc, ◌+◌, ◌-◌, ◌*◌, ◌/◌, ◌<◌, ◌≤◌, ◌∣◌}
use native.Mathlib.Nat.{add-mul, one-mul, suc-mul, mul-le-mul_right, lt_of_mul-lt-mul_right}
use native.Mathlib.Nat.{mul-div_cancel, div-mul_cancel, div-mul-le_self, lt-div-mul-add, div-eq_of_lt-le}
use native.Mathlib.Decide.{dec_lt}
use native.Mathlib.Omega.{arith}
use lib.Dec.{lit<}
use lib.ListN.{length, get_or}
use Rattle.refusals.specs.Refusals.{first_of, answered}
use Rattle.conditions.specs.declared.Direction.{Direction}
use Rattle.conditions.specs.declared.Direction.TheVariants.{Up, Down}
use Rattle.timeslots.specs.Timeslots.{Part, DATA1, TFCI1, MIDAMBLE, TPC, TFCI2, DATA2, GUARD, before_guard, order, control_chips, chips_of_bits, bits_of_chips}
use Rattle.timeslots.specs.Timeslots.{unit, part_length, part_lengths, SevenParts, seven_parts, lies_at}
use Rattle.tables.specs.Tables.{parts_refusals}
use Rattle.timeslots.specs.Calls.{parts_answer, at_answer}
use Rattle.there_and_back.proofs.Spans.{start, holder, each_of_seven, holder_at, holder_found, end_within, spans_at, lies_holder}
use Rattle.timeslots.proofs.Sizes.{whole}
use Rattle.timeslots.proofs.Answers.{parts_given, at_beyond, at_answered}
use Rattle.there_and_back.proofs.Cover.{spans_given, seven, total}

-- a part's place in the order
unfoldable pub place : Part → ℕ
place DATA1 = 0
place TFCI1 = 1
place MIDAMBLE = 2
place TPC = 3
place TFCI2 = 4
place DATA2 = 5
place GUARD = 6

pub order_place : (x : Part) → (place x < 7) × (get_or order (place x) GUARD ≡ x)
unfolding order place
order_place DATA1 = (lit< tt, refl)
order_place TFCI1 = (lit< tt, refl)
order_place MIDAMBLE = (lit< tt, refl)
order_place TPC = (lit< tt, refl)
order_place TFCI2 = (lit< tt, refl)
order_place DATA2 = (lit< tt, refl)
order_place GUARD = (lit< tt, refl)

place_order : (p : ℕ) → p < 7 → place (get_or order p GUARD) ≡ p
unfolding order place
place_order = each_of_seven (λ (p : ℕ). place (get_or order p GUARD) ≡ p) refl refl refl refl refl refl refl

-- chips in runs of u: run n of a part is u chips long, and whole
run_next : (n u : ℕ) → (n + 1) * u ≡ n * u + u
run_next n u = add-mul n 1 u ∙ ap (λ (x : ℕ). n * u + x) (one-mul u)

run_whole : (u l n : ℕ) → u ∣ l → n * u < l → (n + 1) * u ≤ l
run_whole u l n d h =
    let e : l / u * u ≡ l = div-mul_cancel u d in
    let b : n < l / u = lt_of_mul-lt-mul_right u (rw e h) in
    let m : suc n * u ≤ l / u * u = mul-le-mul_right u b in
    omega (arith, m, e, run_next n u, suc-mul n u)

-- the offset o lies in run n
run_of : (u o n : ℕ) → 1 ≤ u → (o / u ≡ n) ↔ ((n * u ≤ o) × (o < (n + 1) * u))
run_of u o n h = (λ e. rw (← e) (div-mul-le_self o u, omega (arith, lt-div-mul-add {a = o} h, run_next (o / u) u)), λ b. div-eq_of_lt-le u b.0 b.1)

-- whole symbols carry all their bits
bits_chips : (l f : ℕ) → f ∣ l → chips_of_bits (bits_of_chips l f) f ≡ l
unfolding chips_of_bits bits_of_chips
bits_chips l f d = ap (λ (x : ℕ). x * f) (mul-div_cancel (l / f) (lit< tt)) ∙ div-mul_cancel f d

-- chip chip lies in the span's symbol n, where a symbol takes u chips
pub record InSymbol (span : ℕ × ℕ) (u n chip : ℕ) : Type 0 where
  pub there : n * u < span.1
  pub from : span.0 + n * u ≤ chip
  pub until : chip < span.0 + (n + 1) * u

-- where single chips are counted, as in midamble and guard, that is the chip at offset n
pub in_offset : (span : ℕ × ℕ) (n chip : ℕ) → InSymbol span 1 n chip ↔ ((n < span.1) × (chip ≡ span.0 + n))
in_offset span n chip = (
  λ i. (omega (arith, i.there), omega (arith, i.from, i.until)),
  λ e. record { there = omega (arith, e.0); from = omega (arith, e.1); until = omega (arith, e.1) },
)

module _ (burst : ℕ) (direction : Direction) (factor tfci tpc : ℕ) (s : List (ℕ × ℕ)) (bits : ℕ × ℕ)
    (given : parts_answer burst direction factor tfci tpc ≡ answered (s, bits)) where
  abbrev ls : List ℕ
  ls = part_lengths burst direction factor tfci tpc

  abbrev counted : Part → ℕ
  counted x = unit direction factor x

  accepts : first_of (parts_refusals burst direction factor tfci tpc) ≡ 0
  accepts = (parts_given burst direction factor tfci tpc (s, bits) given).0

  of_place : (x : Part) → place x < length ls
  of_place x = omega (arith, seven burst direction factor tfci tpc s bits given, (order_place x).0)

  length_of : (x : Part) → get_or ls (place x) 0 ≡ part_length burst direction factor tfci tpc x
  unfolding part_lengths order place
  length_of DATA1 = refl
  length_of TFCI1 = refl
  length_of MIDAMBLE = refl
  length_of TPC = refl
  length_of TFCI2 = refl
  length_of DATA2 = refl
  length_of GUARD = refl

  -- the span that `parts` answers for a part, which is a whole number of what is counted in it
  span_of : (x : Part) → get_or s (place x) (0, 0) ≡ (start ls (place x), get_or ls (place x) 0)
  span_of x = rw (← spans_given burst direction factor tfci tpc s bits given) (spans_at ls (place x) (of_place x))

  runs : (x : Part) → (1 ≤ counted x) × (counted x ∣ get_or ls (place x) 0)
  runs x = rw (length_of x) (whole burst direction factor tfci tpc accepts x)

  -- what lies at a chip, by the part that holds it
  held : (chip : ℕ) → chip < 2560
      → lies_at burst direction factor tfci tpc chip ≡ (let f = holder ls chip in let x = get_or order f.0 GUARD in (x, f.1 / counted x))
  unfolding lies_at part_lengths order unit
  held chip h = lies_holder (λ (x : Part). part_length burst direction factor tfci tpc x) counted refl before_guard chip (rw (total burst direction factor tfci tpc s bits given) h)

  module _ (x : Part) (n chip : ℕ) where
    lies_in : chip < 2560 → lies_at burst direction factor tfci tpc chip ≡ (x, n)
        → InSymbol (start ls (place x), get_or ls (place x) 0) (counted x) n chip
    lies_in h e =
        let f = holder_found ls chip (rw (total burst direction factor tfci tpc s bits given) h) in
        let p = (holder ls chip).0 in
        let told = sym (held chip h) ∙ e in
        let seventh : p < 7 = omega (arith, seven burst direction factor tfci tpc s bits given, f.part) in
        let named : get_or order p GUARD ≡ x = ap (λ (r : Part × ℕ). r.0) told in
        let q : p ≡ place x = sym (place_order p seventh) ∙ ap place named in
        let number : (holder ls chip).1 / counted x ≡ n = ap (λ (y : Part). (holder ls chip).1 / counted y) (sym named) ∙ ap (λ (r : Part × ℕ). r.1) told in
        let b = (run_of (counted x) (holder ls chip).1 n (runs x).0).0 number in
        rw (← q) (record { there = omega (arith, b.0, f.inside); from = omega (arith, b.0, f.there); until = omega (arith, b.1, f.there) })

    in_lies : InSymbol (start ls (place x), get_or ls (place x) 0) (counted x) n chip
        → (chip < 2560) × (lies_at burst direction factor tfci tpc chip ≡ (x, n))
    in_lies i =
        let p = place x in
        let u = counted x in
        let o = chip - start ls p in
        let w = run_whole u (get_or ls p 0) n (runs x).1 i.there in
        let e : start ls p + o ≡ chip = omega (arith, i.from) in
        let inside : o < get_or ls p 0 = omega (arith, w, i.until, i.from) in
        let found : holder ls chip ≡ (p, o) = ap (holder ls) (sym e) ∙ holder_at ls p o (of_place x) inside in
        let number : o / u ≡ n = (run_of u o n (runs x).0).1 (omega (arith, i.from), omega (arith, i.from, i.until)) in
        let below : chip < 2560 = omega (arith, e, inside, end_within ls p (of_place x), total burst direction factor tfci tpc s bits given) in (
          below,
          held chip below ∙ simp (found, (order_place x).1, number),
        )

    -- a chip is answered with a part and a number exactly when it lies in that symbol, or at that offset, of the part's span
    pub agree : (at_answer burst direction factor tfci tpc chip ≡ answered (x, n)) ↔ InSymbol (get_or s (place x) (0, 0)) (counted x) n chip
    agree = rw (span_of x) (to (dec_lt 2559 chip), from)
      where
        to : Dec (2559 < chip) → at_answer burst direction factor tfci tpc chip ≡ answered (x, n) → InSymbol (start ls (place x), get_or ls (place x) 0) (counted x) n chip
        to (yes b) e =
            let refusal = at_beyond burst direction factor tfci tpc chip accepts b in
            let z : ◌≡◌ {A = ℕ} 0 1 = cc in absurd (omega arith)
        to (no b) e =
            let answer = at_answered burst direction factor tfci tpc chip accepts (omega arith) in
            let l : lies_at burst direction factor tfci tpc chip ≡ (x, n) = cc in
            lies_in (omega arith) l

        from : InSymbol (start ls (place x), get_or ls (place x) 0) (counted x) n chip → at_answer burst direction factor tfci tpc chip ≡ answered (x, n)
        from i =
            let r = in_lies i in
            at_answered burst direction factor tfci tpc chip accepts (omega (arith, r.0)) ∙ ap answered r.1

  -- every symbol has exactly its number of chips: with its first chip the whole of it lies in the part
  pub symbol_whole : (x : Part) (n : ℕ) → n * counted x < (get_or s (place x) (0, 0)).1 → (n + 1) * counted x ≤ (get_or s (place x) (0, 0)).1
  symbol_whole x n = rw (span_of x) (run_whole (counted x) _ n (runs x).1)

  -- and the bits that are told of a data part are all that its chips carry
  pub bits_whole : (chips_of_bits bits.0 factor ≡ (get_or s (place DATA1) (0, 0)).1) × (chips_of_bits bits.1 factor ≡ (get_or s (place DATA2) (0, 0)).1)
  unfolding unit seven_parts
  bits_whole =
      let told = (parts_given burst direction factor tfci tpc (s, bits) given).1 in (
        ap (λ (t : SevenParts). chips_of_bits t.1.0 factor) (sym told) ∙ bits_chips _ factor (whole burst direction factor tfci tpc accepts DATA1).1 ∙ sym (length_of DATA1) ∙ sym (ap (λ (r : ℕ × ℕ). r.1) (span_of DATA1)),
        ap (λ (t : SevenParts). chips_of_bits t.1.1 factor) (sym told) ∙ bits_chips _ factor (whole burst direction factor tfci tpc accepts DATA2).1 ∙ sym (length_of DATA2) ∙ sym (ap (λ (r : ℕ × ℕ). r.1) (span_of DATA2)),
      )

-- and that number is the data's factor for data, and for control always 16 in uplink, the factor in downlink
pub symbol_chips : (factor : ℕ) →
    (map (unit Up factor) order ≡ factor ∷ 16 ∷ 1 ∷ 16 ∷ 16 ∷ factor ∷ 1 ∷ [])
    × (map (unit Down factor) order ≡ factor ∷ factor ∷ 1 ∷ factor ∷ factor ∷ factor ∷ 1 ∷ [])
unfolding order unit control_chips
symbol_chips factor = (refl, refl)

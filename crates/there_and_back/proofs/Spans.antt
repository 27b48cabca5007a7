-- Parts laid one behind the other, over any row of lengths: each starts where the one before ends, every chip is in exactly one,
-- and what `spans` and `lies` say of them. Cited by proofs/Cover.antt and proofs/Agree.antt. Assumes nothing.
use mathlib.Core.Path.{◌≡◌, refl, sym, ap, ◌∙◌}
use mathlib.Core.Bool.{cond}
use mathlib.Core.List.{List, [], ◌∷◌, ◌++◌, map}
use Prim.Native.Nat.{ℕ, zero, suc, ◌+◌, ◌-◌, ◌/◌, ◌<◌, ◌≤◌}
use native.Mathlib.Omega.{arith}
use native.Mathlib.Decide.{dec_lt}
use native.Mathlib.Nat.{add-zero, zero-add, div-one}
use lib.Dec.{ltb}
use lib.ListN.{length, get_or}
use borrow.Author.Tests.{lt-ltb, le-ltb}
use Rattle.timeslots.specs.Timeslots.{Part, GUARD, spans, lies}

-- where part p of these lengths starts, counted from 0
unfoldable pub start : List ℕ → ℕ → ℕ
start ls zero = 0
start [] (suc p) = 0
start (l ∷ ls) (suc p) = l + start ls p

-- the part that holds a chip, by its place from 0, and the chip's offset in it
unfoldable pub holder : List ℕ → ℕ → ℕ × ℕ
holder [] chip = (0, chip)
holder (l ∷ ls) chip = cond (ltb chip l) (0, chip) (let f = holder ls (chip - l) in (suc f.0, f.1))

-- what holds of each of the seven parts
pub each_of_seven : (P : ℕ → Type 0) → P 0 → P 1 → P 2 → P 3 → P 4 → P 5 → P 6 → (p : ℕ) → p < 7 → P p
each_of_seven P a b c d e f g zero h = a
each_of_seven P a b c d e f g (suc zero) h = b
each_of_seven P a b c d e f g (suc (suc zero)) h = c
each_of_seven P a b c d e f g (suc (suc (suc zero))) h = d
each_of_seven P a b c d e f g (suc (suc (suc (suc zero)))) h = e
each_of_seven P a b c d e f g (suc (suc (suc (suc (suc zero))))) h = f
each_of_seven P a b c d e f g (suc (suc (suc (suc (suc (suc zero)))))) h = g
each_of_seven P a b c d e f g (suc (suc (suc (suc (suc (suc (suc p))))))) h = absurd (omega arith)

-- the first part starts at chip 0
pub start_first : (ls : List ℕ) → start ls 0 ≡ 0
unfolding start
start_first ls = refl

-- "starts where the part before it ends", empty or not
pub start_next : (ls : List ℕ) (p : ℕ) → start ls (suc p) ≡ start ls p + get_or ls p 0
unfolding start
start_next [] zero = refl
start_next [] (suc p) = refl
start_next (l ∷ ls) zero = omega arith
start_next (l ∷ ls) (suc p) = let e = start_next ls p in omega arith

-- no part reaches beyond the end of the last
pub end_within : (ls : List ℕ) (p : ℕ) → p < length ls → start ls p + get_or ls p 0 ≤ start ls (length ls)
unfolding start
end_within [] p h = absurd (omega arith)
end_within (l ∷ ls) zero h = omega arith
end_within (l ∷ ls) (suc p) h = let e = end_within ls p (omega arith) in omega arith

-- the chip at an offset of a part is found there
pub holder_at : (ls : List ℕ) (p o : ℕ) → p < length ls → o < get_or ls p 0 → holder ls (start ls p + o) ≡ (p, o)
unfolding start holder
holder_at [] p o h b = absurd (omega arith)
holder_at (l ∷ ls) zero o h b =
    let z : 0 + o ≡ o = omega arith in
    simp (z, lt-ltb o l b)
holder_at (l ∷ ls) (suc p) o h b =
    let z : l + start ls p + o - l ≡ start ls p + o = omega arith in
    simp (le-ltb (l + start ls p + o) l (omega arith), z, holder_at ls p o (omega arith) b)

-- where a chip is found, it lies
pub record Found (ls : List ℕ) (chip : ℕ) (f : ℕ × ℕ) : Type 0 where
  pub part : f.0 < length ls
  pub there : start ls f.0 + f.1 ≡ chip
  pub inside : f.1 < get_or ls f.0 0

pub holder_found : (ls : List ℕ) (chip : ℕ) → chip < start ls (length ls) → Found ls chip (holder ls chip)
unfolding start holder
holder_found [] chip h = absurd (omega arith)
holder_found (l ∷ ls) chip h = by (dec_lt chip l) (λ b. holder_found ls (chip - l) b)
  where
    by : Dec (chip < l) → (chip - l < start ls (length ls) → Found ls (chip - l) (holder ls (chip - l))) → Found (l ∷ ls) chip (holder (l ∷ ls) chip)
    by (yes a) f = rw (lt-ltb chip l a) (record { part = omega arith; there = omega arith; inside = a })
    by (no n) f =
        let g = f (omega arith) in
        rw (le-ltb chip l (omega arith)) (record { part = omega (arith, g.part); there = omega (arith, g.there); inside = g.inside })

-- a part holds a chip
pub record Within (ls : List ℕ) (p chip : ℕ) : Type 0 where
  pub part : p < length ls
  pub from : start ls p ≤ chip
  pub until : chip < start ls p + get_or ls p 0

-- it does so exactly where the chip is found in it
pub within_holder : (ls : List ℕ) (p chip : ℕ) → Within ls p chip → holder ls chip ≡ (p, chip - start ls p)
within_holder ls p chip w =
    let e : start ls p + (chip - start ls p) ≡ chip = omega arith in
    ap (holder ls) (sym e) ∙ holder_at ls p (chip - start ls p) w.part (omega arith)

pub holder_within : (ls : List ℕ) (chip : ℕ) → chip < start ls (length ls) → Within ls (holder ls chip).0 chip
holder_within ls chip h = let f = holder_found ls chip h in record { part = f.part; from = omega (arith, f.there); until = omega (arith, f.there, f.inside) }

-- so no two parts hold a chip, and none holds one beyond the last part's end
pub within_one : (ls : List ℕ) (p q chip : ℕ) → Within ls p chip → Within ls q chip → p ≡ q
within_one ls p q chip v w = ap (λ (f : ℕ × ℕ). f.0) (sym (within_holder ls p chip v) ∙ within_holder ls q chip w)

pub within_end : (ls : List ℕ) (p chip : ℕ) → Within ls p chip → chip < start ls (length ls)
within_end ls p chip w = omega (arith, w.until, end_within ls p w.part)

-- the span of part p
from_at : (a : ℕ) (ls : List ℕ) (p : ℕ) → p < length ls → get_or (spans a ls) p (0, 0) ≡ (a + start ls p, get_or ls p 0)
unfolding spans start
from_at a [] p h = absurd (omega arith)
from_at a (l ∷ ls) zero h = simp add-zero
from_at a (l ∷ ls) (suc p) h =
    let e : a + l + start ls p ≡ a + (l + start ls p) = omega arith in
    from_at (a + l) ls p (omega arith) ∙ ap (λ (x : ℕ). (x, get_or ls p 0)) e

pub spans_at : (ls : List ℕ) (p : ℕ) → p < length ls → get_or (spans 0 ls) p (0, 0) ≡ (start ls p, get_or ls p 0)
spans_at ls p h = from_at 0 ls p h ∙ ap (λ (x : ℕ). (x, get_or ls p 0)) (zero-add (start ls p))

-- what lies at a chip of some part: the part that holds it, and how many were counted up to its offset
module _ (long counted : Part → ℕ) (one : counted GUARD ≡ 1) where
  abbrev all : List Part → List ℕ
  all ps = map long (ps ++ (GUARD ∷ []))

  abbrev said : List Part → ℕ × ℕ → Part × ℕ
  said ps f = let x = get_or (ps ++ (GUARD ∷ [])) f.0 GUARD in (x, f.1 / counted x)

  pub lies_holder : (ps : List Part) (chip : ℕ) → chip < start (all ps) (length (all ps)) → lies long counted ps chip ≡ said ps (holder (all ps) chip)
  unfolding lies start holder
  lies_holder [] chip h = simp (lt-ltb chip (long GUARD) (omega arith), one, div-one)
  lies_holder (x ∷ ps) chip h = by (dec_lt chip (long x)) (λ b. lies_holder ps (chip - long x) b)
    where
      by : Dec (chip < long x)
          → (chip - long x < start (all ps) (length (all ps)) → lies long counted ps (chip - long x) ≡ said ps (holder (all ps) (chip - long x)))
          → lies long counted (x ∷ ps) chip ≡ said (x ∷ ps) (holder (all (x ∷ ps)) chip)
      by (yes a) f = simp (lt-ltb chip (long x) a)
      by (no n) f = simp (le-ltb chip (long x) (omega arith), f (omega arith))

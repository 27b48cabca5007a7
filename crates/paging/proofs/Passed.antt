-- The refusals that all calls begin with, and what a call knows once none of them holds: the length is 2, 4 or 8, and runs of it fill a half.
-- Cited by the proof of `Frame::of` and by the theorems of `paging_back`. Assumes nothing.
use mathlib.Core.Path.{◌≡◌, refl}
use mathlib.Core.Bool.{Bool, true, false, cond, not, ◌||◌}
use mathlib.Core.List.{List, [], ◌∷◌, map}
use Prim.Native.Nat.{ℕ, ◌*◌, ◌/◌, ◌≤◌}
use lib.Dec.{T, eqb, leb, ltb, leb→le, eqb→eq}
use lib.ListN.{length}
use borrow.Author.Tests.{not-false, ltb-false}
use Rattle.laws.proofs.Bools.{or_false}
use Rattle.laws.proofs.Cases.{one_of}
use Rattle.conditions.specs.Conditions.{bad_type, bad_pich, too_short}
use Rattle.tables.specs.Tables.{pich_refusals}
use Rattle.refusals.specs.Refusals.{first_of}
use Rattle.refusals.proofs.First.{numbered, first_none, append_none}
use Rattle.paging_bits.specs.Bits.{per_frame}
use Rattle.paging_bits.specs.Inside.{Fits, Holds}
use Rattle.paging.specs.Paging.{carrying_of, half_of}
use Rattle.paging.specs.Calls.{frame_refusals}

-- runs of length L in a half of H bits, each condition a computed test
fit : (L H : ℕ) → T (leb 1 L) → T (leb L 8) → T (leb 1 (H / L)) → T (eqb (H / L * L) H) → Fits L (per_frame L H) H
fit L H a b c d = record { low = leb→le 1 L a; high = leb→le L 8 b; some = leb→le 1 (H / L) c; whole = eqb→eq (H / L * L) H d }

-- what holds of half of 240 and of half of 272 holds of each type's half
pick_half : (P : ℕ → Type 0) → P 120 → P 136 → (b : Bool) → P (cond b 240 272 / 2)
pick_half P x y true = x
pick_half P x y false = y

of_halves : (P : ℕ → Type 0) → P 120 → P 136 → (burst : ℕ) → P (half_of burst)
unfolding half_of carrying_of
of_halves P x y burst = pick_half P x y (eqb burst 1)

pub half_high : (burst : ℕ) → half_of burst ≤ 136
half_high burst = of_halves (λ H. H ≤ 136) (leb→le 120 136 tt) (leb→le 136 136 tt) burst

fits_length : (burst L : ℕ) → bad_pich burst L ≡ false → Fits L (per_frame L (half_of burst)) (half_of burst)
unfolding bad_pich
fits_length burst L e =
    let both : (l : ℕ) → Fits l (per_frame l 120) 120 → Fits l (per_frame l 136) 136 → Fits l (per_frame l (half_of burst)) (half_of burst) = λ l x y. of_halves (λ H. Fits l (per_frame l H) H) x y burst in
    one_of (λ (l : ℕ). Fits l (per_frame l (half_of burst)) (half_of burst)) L 2 (4 ∷ 8 ∷ [])
    (both 2 (fit 2 120 tt tt tt tt) (fit 2 136 tt tt tt tt), (both 4 (fit 4 120 tt tt tt tt) (fit 4 136 tt tt tt tt), (both 8 (fit 8 120 tt tt tt tt) (fit 8 136 tt tt tt tt), tt)))
    (not-false _ (or_false (eqb burst 3) (not (eqb L 2 || eqb L 4 || eqb L 8)) e).1)

pub fits : (burst L : ℕ) → first_of (pich_refusals burst L) ≡ 0 → Fits L (per_frame L (half_of burst)) (half_of burst)
unfolding pich_refusals
fits burst L e = fits_length burst L (first_none 9 (bad_pich burst L) [] (first_none 1 (bad_type burst) _ e).1).0

-- none of them has the number 0
pub pich_numbered : (burst L : ℕ) → T (numbered (pich_refusals burst L))
unfolding pich_refusals
pich_numbered burst L = tt

-- a call on a frame's bytes that is not refused, which reads `need` of `given` and writes `room` of `out`
pub lent_passed : (burst L need : ℕ) (given : List ℕ) (room : ℕ) (out : List ℕ) → first_of (frame_refusals burst L need given room out) ≡ 0
    → Fits L (per_frame L (half_of burst)) (half_of burst) × Holds given need × Holds out room
unfolding too_short
lent_passed burst L need given room out z =
    let none = append_none (pich_refusals burst L) 10 _ (pich_numbered burst L) z in
    let long = or_false (ltb (length given) need) (ltb (length out) room) none.1 in
    (fits burst L none.0, ltb-false _ _ long.0, ltb-false _ _ long.1)

-- "a timeslot holds 60, 30, 15 (type 1) or 68, 34, 17 (type 2) for L = 2, 4, 8"
pub per_frame_table : map (λ (burst : ℕ). map (λ (L : ℕ). per_frame L (half_of burst)) (2 ∷ 4 ∷ 8 ∷ [])) (1 ∷ 2 ∷ []) ≡ (60 ∷ 30 ∷ 15 ∷ []) ∷ (68 ∷ 34 ∷ 17 ∷ []) ∷ []
unfolding half_of carrying_of
per_frame_table = refl

-- A float that is a whole number up to 512 times 2047, as an i64, and its square. Cited by the proofs of squared and strength_of.
-- Assumes nothing.
use mathlib.Core.Path.{◌≡◌, refl, sym, ap, ◌∙◌, subst}
use Prim.Native.Nat.{ℕ, ◌*◌, ◌^◌, ◌≤◌, ◌<◌}
use native.Mathlib.Nat.{mul-le-mul}
use native.Mathlib.Omega.{arith}
use lib.Dec.{T, le→leb, lt→ltb}
use lib.IntN.{ℤ, pos, negsuc, nat_abs, ◌*ℤ◌}
use lib.Ieee.{Float, binary32, of_int, in_float, in_signed, to_signed}
use lib.Ieee.Back.{positive_back, negative_back}
use mir.Syntax.{w64}
use mir.Val.{SFits, to_z, of_z}
use mir.ValLaws.{to_z-of_z}

int_back : (z : ℤ) → nat_abs z ≤ 1048064 → T (in_signed binary32 63 (of_int binary32 z)) × (to_signed 63 (of_int binary32 z) ≡ z)
unfolding in_float
int_back (pos n) h = positive_back binary32 63 n (le→leb n (2 ^ 24) (omega arith)) (omega arith)
int_back (negsuc n) h = negative_back binary32 63 n (lt→ltb n (2 ^ 24) (omega arith)) (omega arith)

fits : (z : ℤ) (k : ℕ) → nat_abs z ≤ k → k < 2 ^ 63 → SFits w64 z
fits (pos n) k h l = record { sfits = omega arith }
fits (negsuc n) k h l = record { sfits = omega arith }

square_is : (z : ℤ) → z *ℤ z ≡ pos (nat_abs z * nat_abs z)
square_is (pos n) = refl
square_is (negsuc n) = refl

-- a square has at most forty binary digits
pub square_size : (n : ℕ) → n ≤ 1048064 → n * n ≤ 1098438148096
square_size n h = mul-le-mul h h

square_fits : (z : ℤ) → nat_abs z ≤ 1048064 → SFits w64 (z *ℤ z)
square_fits z h = subst (λ (y : ℤ). SFits w64 y) (sym (square_is z)) (record { sfits = let k = square_size (nat_abs z) h in omega arith })

-- through the cast of x to an i64
module _ (x : Float) (z : ℤ) (is : x ≡ of_int binary32 z) (h : nat_abs z ≤ 1048064) where
  pub cast_good : T (in_signed binary32 63 x)
  cast_good = subst (λ (y : Float). T (in_signed binary32 63 y)) (sym is) (int_back z h).0

  n_is : to_z w64 (of_z w64 (to_signed 63 x)) ≡ z
  n_is =
      ap (λ (y : Float). to_z w64 (of_z w64 (to_signed 63 y))) is
      ∙ ap (λ (y : ℤ). to_z w64 (of_z w64 y)) (int_back z h).1
      ∙ to_z-of_z w64 z (fits z 1048064 h (omega arith))

  pub product_fits : SFits w64 (to_z w64 (of_z w64 (to_signed 63 x)) *ℤ to_z w64 (of_z w64 (to_signed 63 x)))
  product_fits = subst (λ (y : ℤ). SFits w64 (y *ℤ y)) (sym n_is) (square_fits z h)

  pub product_is : to_z w64 (of_z w64 (to_z w64 (of_z w64 (to_signed 63 x)) *ℤ to_z w64 (of_z w64 (to_signed 63 x)))) ≡ pos (nat_abs z * nat_abs z)
  product_is = ap (λ (y : ℤ). to_z w64 (of_z w64 (y *ℤ y))) n_is ∙ to_z-of_z w64 (z *ℤ z) (square_fits z h) ∙ square_is z

  pub product_small : nat_abs z * nat_abs z < 2 ^ 64
  product_small = let k = square_size (nat_abs z) h in omega arith

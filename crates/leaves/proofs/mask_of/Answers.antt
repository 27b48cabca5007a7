-- `leaves::mask_of` meets its contract: what it makes is the code's pattern, as the test over all codes has it.
-- Assumes nothing.
use mathlib.Core.Path.{◌≡◌}
use mathlib.Core.Bool.{false}
use Prim.Native.Nat.{ℕ, ◌-◌, ◌*◌, ◌%◌, ◌^◌, ◌≤◌, ◌<◌}
use native.Mathlib.Omega.{arith}
use Rattle.conditions.specs.Conditions.{bad_code}
use Rattle.leaves.specs.Leaves.{leaves_of, first_leaf, covers, pattern}
use Rattle.leaves.proofs.Masks.{shifted, covered}
use Rattle.leaves.proofs.mask_of.Goals as goal

-- where n and a are what was told of a good code
module _ (Q k n a : ℕ) (good : bad_code Q k ≡ false) (en : n ≡ leaves_of Q) (ea : a ≡ (k - 1) * n) where
  first : a ≡ first_leaf Q k
  unfolding first_leaf
  first = rw (ea, en)

  ones : 1 ≤ 1 * 2 ^ n % 4294967296
  ones = rw en (covered Q k good).ones

  low : a < 32
  low = omega (arith, first, (covered Q k good).ends)

  mask : shifted n a ≡ pattern (covers Q k)
  mask = rw (en, first) (covered Q k good).mask

  narrow : shifted n a < 65536
  narrow = rw mask (covered Q k good).narrow

pub overflow_sub-ones : goal.overflow_sub-ones
overflow_sub-ones c =
    ones c.args.factor c.args.index _ _ c.requires c.leaves_of-n.ensures.0 c.leaf_at-a.ensures.0

pub overflow_shl-result : goal.overflow_shl-result
overflow_shl-result c =
    low c.args.factor c.args.index _ _ c.requires c.leaves_of-n.ensures.0 c.leaf_at-a.ensures.0

pub overflow_cast-result : goal.overflow_cast-result
overflow_cast-result c =
    record { fits = narrow c.args.factor c.args.index _ _ c.requires c.leaves_of-n.ensures.0 c.leaf_at-a.ensures.0 }

pub returns : goal.returns
returns c =
    mask c.args.factor c.args.index _ _ c.requires c.leaves_of-n.ensures.0 c.leaf_at-a.ensures.0

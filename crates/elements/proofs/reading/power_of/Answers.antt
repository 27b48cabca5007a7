-- `elements::reading::power_of` meets its contract: the turn by j to the power of the element, with no branch: bit 0 adds 2.
-- Assumes nothing.
use mathlib.Core.Path.{◌≡◌, refl}
use mathlib.Core.Bool.{Bool, true, false, cond}
use Prim.Native.Nat.{ℕ, ◌+◌, ◌-◌, ◌*◌, ◌%◌, ◌<◌}
use native.Mathlib.Omega.{arith}
use lib.Dec.{eqb}
use borrow.Author.Tests.{eqb-true, eqb-false}
use Rattle.elements.specs.Elements.{turned}
use Rattle.elements.proofs.reading.power_of.Goals as goal

by_test : (z : Bool) (i bit : ℕ) → bit < 2 → eqb bit 1 ≡ z → (i + 2 * (1 - bit)) % 4 ≡ cond z (i % 4) ((i + 2) % 4)
by_test true i bit h e = let k = eqb-true bit 1 e in omega arith
by_test false i bit h e = let k = eqb-false bit 1 e in omega arith

pub returns : goal.returns
unfolding turned
returns c = by_test _ _ _ c.requires.1 refl

-- The two calls ask nothing, and no second reply, place or memory could satisfy their promises. `Pre` and `Post` are the contracts that rattle
-- reads off the source: at arguments a, reply r and exit s. A weakened `ensures` fails here. Assumes nothing.
use mathlib.Core.Path.{◌≡◌, sym, ap, ◌∙◌}
use mathlib.Core.List.{List}
use Prim.Native.Nat.{ℕ}
use Rattle.refusals.proofs.First.{leaving_parts}
use Rattle.refusals.proofs.Numbers.{said_once}
use Rattle.blocks.specs.declared.Place.{Place}
use Rattle.blocks.proofs.start.Reads as start
use Rattle.blocks.proofs.block.Reads as block

pub start_asks_nothing : (κs : _) (a : _) → start.Pre κs a
start_asks_nothing κs a = tt

pub block_asks_nothing : (κs : _) (a : _) → block.Pre κs a
block_asks_nothing κs a = tt

pub start_unique : (κs : _) (a : _) (r r' : _) (s s' : _) → start.Post κs a r s → start.Post κs a r' s' → r ≡ r'
start_unique κs a r r' s s' p q = said_once r r' (p ∙ sym q)

pub block_unique : (κs : _) (a : _) (r r' : _) (s s' : _) → block.Post κs a r s → block.Post κs a r' s'
    → (r ≡ r') × (s.0.now ≡ s'.0.now) × (s.1.0.now ≡ s'.1.0.now)
block_unique κs a r r' s s' p q =
    let e = leaving_parts _ _ _ _ (p ∙ sym q) in
    let left = e.1 in
    (said_once r r' e.0, ap (λ (m : Place × List ℕ). m.0) left, ap (λ (m : Place × List ℕ). m.1) left)

-- The two calls ask nothing, and no second reply or memory could satisfy their promises. `Pre` and `Post` are the contracts that rattle
-- reads off the source: at arguments a, reply r and exit s. A weakened `ensures` fails here. Assumes nothing.
use mathlib.Core.Path.{◌≡◌, sym, ◌∙◌}
use Rattle.refusals.proofs.First.{leaving_parts}
use Rattle.refusals.proofs.Numbers.{said_once}
use Rattle.midambles.proofs.midamble_chip.Reads as midamble-chip
use Rattle.midambles.proofs.midamble.Reads as whole

pub midamble_chip_asks_nothing : (κs : _) (a : _) → midamble-chip.Pre κs a
midamble_chip_asks_nothing κs a = tt

pub midamble_asks_nothing : (κs : _) (a : _) → whole.Pre κs a
midamble_asks_nothing κs a = tt

pub chip_unique : (κs : _) (a : _) (r r' : _) (s s' : _) → midamble-chip.Post κs a r s → midamble-chip.Post κs a r' s' → r ≡ r'
chip_unique κs a r r' s s' p q = said_once r r' (p ∙ sym q)

pub midamble_unique : (κs : _) (a : _) (r r' : _) (s s' : _) → whole.Post κs a r s → whole.Post κs a r' s'
    → (r ≡ r') × (s.1.1.1.1.0.now ≡ s'.1.1.1.1.0.now)
midamble_unique κs a r r' s s' p q = let e = leaving_parts _ _ _ _ (p ∙ sym q) in (said_once r r' e.0, e.1)

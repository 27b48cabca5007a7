-- The two calls ask nothing, and no second reply or row could satisfy their promises. `Pre` and `Post` are the contracts that rattle
-- reads off the source: at arguments a, reply r and exit s. A weakened `ensures` fails here. Assumes nothing.
use mathlib.Core.Path.{◌≡◌, sym, ◌∙◌}
use Rattle.std.specs.Prelude.{Result}
use Rattle.refusals.specs.declared.Refusal.{Refusal}
use Rattle.refusals.specs.Refusals.{said_as}
use Rattle.refusals.proofs.First.{leaving_parts}
use Rattle.refusals.proofs.Numbers.{said_once, said_as_once}
use Rattle.signal_card.specs.declared.ComplexChip.{ComplexChip}
use Rattle.signal_card.specs.Calls.{parts_of}
use Rattle.signal_card.proofs.pair.Reads as pair
use Rattle.signal_card.proofs.pairs.Reads as pairs

-- two chips with the same parts are the same
same_chip : (c d : ComplexChip) → parts_of c ≡ parts_of d → c ≡ d
same_chip c d e = λ j. record { re = (e j).0; im = (e j).1 }

pub said_pair_once : (r r' : Result ComplexChip Refusal) → said_as parts_of r ≡ said_as parts_of r' → r ≡ r'
said_pair_once r r' e = said_as_once parts_of same_chip r r' e

pub pair_asks_nothing : (κs : _) (a : _) → pair.Pre κs a
pair_asks_nothing κs a = tt

pub pairs_asks_nothing : (κs : _) (a : _) → pairs.Pre κs a
pairs_asks_nothing κs a = tt

pub pair_unique : (κs : _) (a : _) (r r' : _) (s s' : _) → pair.Post κs a r s → pair.Post κs a r' s' → r ≡ r'
pair_unique κs a r r' s s' p q = said_pair_once r r' (p ∙ sym q)

pub pairs_unique : (κs : _) (a : _) (r r' : _) (s s' : _) → pairs.Post κs a r s → pairs.Post κs a r' s'
    → (r ≡ r') × (s.1.1.1.1.1.0.now ≡ s'.1.1.1.1.1.0.now)
pairs_unique κs a r r' s s' p q = let e = leaving_parts _ _ _ _ (p ∙ sym q) in (said_once r r' e.0, e.1)

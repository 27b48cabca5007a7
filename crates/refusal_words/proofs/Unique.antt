-- The call asks nothing, and no second reply or memory could satisfy its promise. `Pre` and `Post` are the contract that rattle reads off the source: a weakened
-- `ensures` fails here. Assumes nothing.
use mathlib.Core.Path.{◌≡◌, sym, ◌∙◌}
use Rattle.refusals.proofs.First.{leaving_parts}
use Rattle.refusals.proofs.Numbers.{said_once}
use Rattle.refusal_words.proofs.words.Reads as words

pub words_asks_nothing : (κs : _) (a : _) → words.Pre κs a
words_asks_nothing κs a = tt

pub words_unique : (κs : _) (a : _) (r r' : _) (s s' : _) → words.Post κs a r s → words.Post κs a r' s' → (r ≡ r') × (s.1.0.now ≡ s'.1.0.now)
words_unique κs a r r' s s' p q = let e = leaving_parts _ _ _ _ (p ∙ sym q) in (said_once r r' e.0, e.1)

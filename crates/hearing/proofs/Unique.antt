-- The call asks nothing, and no second reply could satisfy its promise. `Pre` and `Post` are the contract that rattle reads off the source: at arguments a, reply r and exit s.
-- A weakened `ensures` fails here. Assumes nothing.
use mathlib.Core.Path.{◌≡◌, sym, ◌∙◌}
use Rattle.std.specs.Prelude.{Result}
use Rattle.refusals.specs.declared.Refusal.{Refusal}
use Rattle.refusals.specs.Refusals.{said_as}
use Rattle.refusals.proofs.Numbers.{said_as_once}
use Rattle.hearing.specs.declared.Heard.{Heard}
use Rattle.hearing.specs.declared.Heard.TheVariants as one
use Rattle.hearing.specs.Calls.{heard_meant}
use Rattle.hearing.proofs.hear.Reads as hear

-- two replies that mean the same are the same
pub heard_meant_once : (r r' : Heard) → heard_meant r ≡ heard_meant r' → r ≡ r'
heard_meant_once one.Nobody one.Nobody e = cc
heard_meant_once one.Nobody (one.User k x y) e = cc
heard_meant_once (one.User k x y) one.Nobody e = cc
heard_meant_once (one.User k x y) (one.User l z w) e = cc

pub said_hear_once : (r r' : Result Heard Refusal) → said_as heard_meant r ≡ said_as heard_meant r' → r ≡ r'
said_hear_once r r' e = said_as_once heard_meant heard_meant_once r r' e

pub hear_asks_nothing : (κs : _) (a : _) → hear.Pre κs a
hear_asks_nothing κs a = tt

pub hear_unique : (κs : _) (a : _) (r r' : _) (s s' : _) → hear.Post κs a r s → hear.Post κs a r' s' → r ≡ r'
hear_unique κs a r r' s s' p q = said_hear_once r r' (p ∙ sym q)

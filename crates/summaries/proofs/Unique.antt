-- A summary asks nothing, and no second reply could satisfy its promise. `Pre` and `Post` are the contract that rattle reads off the source. A weakened `ensures` fails
-- here. Assumes nothing.
use mathlib.Core.Path.{◌≡◌, sym, ◌∙◌}
use Rattle.refusals.proofs.Numbers.{said_as_once}
use Rattle.summaries.specs.Summaries.{glance_said}
use Rattle.summaries.proofs.summary.Reads as summary

pub summary_asks_nothing : (κs : _) (a : _) → summary.Pre κs a
summary_asks_nothing κs a = tt

pub summary_unique : (κs : _) (a : _) (r r' : _) (s s' : _) → summary.Post κs a r s → summary.Post κs a r' s' → r ≡ r'
unfolding glance_said
summary_unique κs a r r' s s' p q = said_as_once glance_said (λ v w e. e) r r' (p ∙ sym q)

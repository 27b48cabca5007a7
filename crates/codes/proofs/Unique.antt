-- No call asks anything of its caller (`Pre` holds of everything), and no second reply satisfies its promise (`Post`): both as rattle reads
-- them off the source, at lifetimes κs, arguments a, reply r and exit s. Assumes nothing.
use mathlib.Core.Path.{◌≡◌, sym, ◌∙◌}
use Rattle.codes.proofs.code_of.Reads as code_of_lem
use Rattle.codes.proofs.shift.Reads as shift
use Rattle.codes.proofs.permits.Reads as permits

pub code_of_asks_nothing : (κs : _) (a : _) → code_of_lem.Pre κs a
code_of_asks_nothing κs a = tt

pub code_of_unique : (κs : _) (a : _) (r r' : _) (s s' : _) → code_of_lem.Post κs a r s → code_of_lem.Post κs a r' s' → r ≡ r'
code_of_unique κs a r r' s s' p q = p ∙ sym q

pub shift_asks_nothing : (κs : _) (a : _) → shift.Pre κs a
shift_asks_nothing κs a = tt

pub shift_unique : (κs : _) (a : _) (r r' : _) (s s' : _) → shift.Post κs a r s → shift.Post κs a r' s' → r ≡ r'
shift_unique κs a r r' s s' p q = p ∙ sym q

pub permits_asks_nothing : (κs : _) (a : _) → permits.Pre κs a
permits_asks_nothing κs a = tt

pub permits_unique : (κs : _) (a : _) (r r' : _) (s s' : _) → permits.Post κs a r s → permits.Post κs a r' s' → r ≡ r'
permits_unique κs a r r' s s' p q = p ∙ sym q

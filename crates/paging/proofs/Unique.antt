-- No second reply and no second memory satisfies a promise, and no promise asks anything: `Post` and `Pre` are what rattle reads of each call's contract,
-- at arguments a, reply r and exit s. Assumes nothing.
use mathlib.Core.Path.{◌≡◌, refl, sym, ap, ◌∙◌}
use Rattle.refusals.proofs.First.{leaving_parts}
use Rattle.std.specs.Prelude.{Option, Some, None, Result}
use Prim.Native.Nat.{ℕ}
use Rattle.refusals.specs.declared.Refusal.{Refusal}
use Rattle.refusals.specs.Refusals.{said_as}
use Rattle.refusals.proofs.Numbers.{said_once, said_as_once}
use Rattle.paging.specs.declared.IndicatorPlace.{IndicatorPlace}
use Rattle.paging.specs.Paging.{Place, place, ◌bitsFrom◌}
use Rattle.paging.specs.Calls.{said_place, said_owner}
use Rattle.paging.proofs.indicator.Reads as indicator
use Rattle.paging.proofs.owner.Reads as owner
use Rattle.paging.proofs.page.Reads as page
use Rattle.paging.proofs.read_page.Reads as readPage

-- two answers that say the same are the same
place_in : Place → IndicatorPlace
place_in (place f q (L bitsFrom a) (M bitsFrom b)) = record { frame = f; q = q; first = a; second = b; length = L }

place_said : (v : IndicatorPlace) → place_in (said_place v) ≡ v
unfolding place_in
place_said v = refl

said_place_once : (v w : IndicatorPlace) → said_place v ≡ said_place w → v ≡ w
said_place_once v w e = sym (place_said v) ∙ ap place_in e ∙ place_said w

pub said_indicator_once : (r r' : Result IndicatorPlace Refusal) → said_as said_place r ≡ said_as said_place r' → r ≡ r'
said_indicator_once r r' e = said_as_once said_place said_place_once r r' e

said_option_once : (v w : Option ℕ) → said_owner v ≡ said_owner w → v ≡ w
said_option_once None None e = cc
said_option_once None (Some q) e = cc
said_option_once (Some q) None e = cc
said_option_once (Some q) (Some q') e = cc

pub said_owner_once : (r r' : Result (Option ℕ) Refusal) → said_as said_owner r ≡ said_as said_owner r' → r ≡ r'
said_owner_once r r' e = said_as_once said_owner said_option_once r r' e

pub indicator_asks_nothing : (κs : _) (a : _) → indicator.Pre κs a
indicator_asks_nothing κs a = tt

pub indicator_unique : (κs : _) (a : _) (r r' : _) (s s' : _) → indicator.Post κs a r s → indicator.Post κs a r' s' → r ≡ r'
indicator_unique κs a r r' s s' p q = said_indicator_once r r' (p ∙ sym q)

pub owner_asks_nothing : (κs : _) (a : _) → owner.Pre κs a
owner_asks_nothing κs a = tt

pub owner_unique : (κs : _) (a : _) (r r' : _) (s s' : _) → owner.Post κs a r s → owner.Post κs a r' s' → r ≡ r'
owner_unique κs a r r' s s' p q = said_owner_once r r' (p ∙ sym q)

pub page_asks_nothing : (κs : _) (a : _) → page.Pre κs a
page_asks_nothing κs a = tt

pub page_unique : (κs : _) (a : _) (r r' : _) (s s' : _) → page.Post κs a r s → page.Post κs a r' s' → (r ≡ r') × (s.1.1.1.0.now ≡ s'.1.1.1.0.now)
page_unique κs a r r' s s' p q = let e = leaving_parts _ _ _ _ (p ∙ sym q) in (said_once r r' e.0, e.1)

pub read_page_asks_nothing : (κs : _) (a : _) → readPage.Pre κs a
read_page_asks_nothing κs a = tt

pub read_page_unique : (κs : _) (a : _) (r r' : _) (s s' : _) → readPage.Post κs a r s → readPage.Post κs a r' s' → (r ≡ r') × (s.1.1.1.0.now ≡ s'.1.1.1.0.now)
read_page_unique κs a r r' s s' p q = let e = leaving_parts _ _ _ _ (p ∙ sym q) in (said_once r r' e.0, e.1)

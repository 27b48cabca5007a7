-- The call asks nothing, and no second answer could satisfy its promise. `Pre` and `Post` are the
-- contract that rattle reads off the source. A weakened `ensures` fails here. Assumes nothing.
use mathlib.Core.Path.{◌≡◌, sym, ap, ◌∙◌}
use mathlib.Core.List as row
use Prim.Native.Nat.{ℕ}
use Rattle.std.specs.Prelude.{Result, Ok, Err}
use Rattle.refusals.specs.declared.Refusal.{Refusal}
use Rattle.refusals.proofs.Numbers.{number_once, number_not_0}
use Rattle.bookings.specs.declared.Booking.{Booking}
use Rattle.classbook.specs.declared.List.{List}
use Rattle.classbook.specs.Calls.{ListAnswer, said_list}
use Rattle.lesson_list.proofs.listed.Reads as listed

-- two results that say the same of a list are the same
list_once : (r r' : Result List Refusal) → said_list r ≡ said_list r' → r ≡ r'
list_once (Ok l) (Ok m) e =
    let ec : l.count ≡ m.count = ap (λ (a : ListAnswer). a.count) e in
    let er : l.row ≡ m.row = ap (λ (a : ListAnswer). a.row) e in
    ap Ok (same l.count m.count l.row m.row ec er)
  where
    same : (c d : ℕ) (v w : row.List Booking) → c ≡ d → v ≡ w → ◌≡◌ {A = List} (record { count = c; row = v }) (record { count = d; row = w })
    same c d v w ec er = rw (ec, er)
list_once (Err r) (Err t) e = ap Err (number_once r t (ap (λ (a : ListAnswer). a.refusal) e))
list_once (Ok l) (Err t) e = absurd (number_not_0 t (sym (ap (λ (a : ListAnswer). a.refusal) e)))
list_once (Err r) (Ok m) e = absurd (number_not_0 r (ap (λ (a : ListAnswer). a.refusal) e))

pub listed_asks_nothing : (κs : _) (a : _) → listed.Pre κs a
listed_asks_nothing κs a = tt

pub listed_unique : (κs : _) (a : _) (r r' : _) (s s' : _) → listed.Post κs a r s
    → listed.Post κs a r' s' → r ≡ r'
listed_unique κs a r r' s s' p q = list_once r r' (p ∙ sym q)

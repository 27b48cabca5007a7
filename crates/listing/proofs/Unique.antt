-- The call asks nothing, and no second reply or memory could satisfy its promise. `clauses` is the contract that rattle reads off the source, as assertions of the logic.
-- A weakened `ensures` fails here. Assumes nothing.
use mathlib.Core.Path.{◌≡◌, sym, ◌∙◌}
use mathlib.Core.List.{List}
use Prim.Native.Nat.{ℕ}
use seplogic.Ra.Ura.{Ura}
use base.Logic.{SProp, ent}
use prog.Memory.{Memory}
use prog.Routine.{Routine}
use types.Logic.{Logic}
use contract.Conj.{top}
use contract.Lifetimes.{Lfts}
use contract.Monad.{Fun, fact, fact_i, fact_use}
use denote.Bor.{Bor}
use denote.MutBor.{MutBor}
use Rattle.std.specs.Prelude.{Result}
use Rattle.refusals.specs.declared.Refusal.{Refusal}
use Rattle.refusals.specs.Refusals.{Outcome, ◌leaving◌, said}
use Rattle.refusals.proofs.Numbers.{said_once}
use Rattle.bookings.specs.declared.Booking.{Booking}
use Rattle.classbook.specs.declared.Book.{Book}
use Rattle.listing.specs.Listing.{list_outcome}
use Rattle.listing.specs.contracts.list as list

-- two that both meet an outcome are the same, and so is what they leave
once : (o : Outcome ℕ (List Booking)) (r r' : Result ℕ Refusal) (m m' : List Booking) → (said r leaving m) ≡ o → (said r' leaving m') ≡ o → (r ≡ r') × (m ≡ m')
once o r r' m m' p q =
    let same : (said r leaving m) ≡ (said r' leaving m') = p ∙ sym q in
    (said_once r r' (cc), cc)

module _ {M : Type 1} {𝓤 : Ura M} (𝓛 : Logic 𝓤) (mem : Memory → SProp 𝓤) (run : Routine → Fun 𝓤) (κs : Lfts 2) (b : Bor Book) (seat : ℕ) (out : MutBor (List Booking)) where
  -- what is asked of any book, any number and any records holds, whatever is had
  pub list_asks_nothing : (P : SProp 𝓤) → ent 𝓤 P ((list.clauses 𝓛 mem run κs (b, (seat, (out, tt)))).requires tt)
  list_asks_nothing P = top 𝓤 P

  -- where the promise is had of a reply r and an exit s, and of r' and s', the replies are equal and so are the records
  pub list_unique : (P : SProp 𝓤) (r r' : Result ℕ Refusal) (s s' : _)
      → ent 𝓤 P ((list.clauses 𝓛 mem run κs (b, (seat, (out, tt)))).ensures tt r s)
      → ent 𝓤 P ((list.clauses 𝓛 mem run κs (b, (seat, (out, tt)))).ensures tt r' s')
      → ent 𝓤 P (fact 𝓤 ((r ≡ r') × (s.1.1.0.now ≡ s'.1.1.0.now)))
  list_unique P r r' s s' p q =
      fact_use 𝓤 ((said r leaving s.1.1.0.now) ≡ list_outcome b.now seat out.now) p (λ h.
      fact_use 𝓤 ((said r' leaving s'.1.1.0.now) ≡ list_outcome b.now seat out.now) q (λ h'.
      fact_i 𝓤 ((r ≡ r') × (s.1.1.0.now ≡ s'.1.1.0.now)) P (once _ r r' _ _ h h')))

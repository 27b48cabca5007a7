-- No public call asks anything of its caller (`Pre` holds of everything), and no second reply satisfies its promise (`Post`): both as
-- rattle reads them off the source, at lifetimes κs, arguments a, reply r and exit s. Assumes nothing.
use mathlib.Core.Path.{◌≡◌, refl, sym, ap, ◌∙◌}
use Rattle.std.specs.Prelude.{Result}
use Rattle.refusals.specs.declared.Refusal.{Refusal}
use Rattle.refusals.specs.Refusals.{said_as}
use Rattle.refusals.proofs.Numbers.{said_as_once}
use Rattle.timeslots.specs.declared.Span.{Span}
use Rattle.timeslots.specs.declared.Layout.{Layout}
use Rattle.timeslots.specs.declared.Lying.{Lying}
use Rattle.timeslots.specs.declared.Lying.TheVariants as lying
use Rattle.timeslots.specs.declared.Symbol.TheVariants.{Data1, Data2, Tfci1, Tfci2, Tpc}
use Rattle.timeslots.specs.Timeslots.{Part, DATA1, TFCI1, MIDAMBLE, TPC, TFCI2, DATA2, GUARD, SevenParts}
use Rattle.timeslots.specs.Calls.{said_layout, said_lying}
use Prim.Native.Nat.{ℕ}
use lib.ListN.{get_or}
use Rattle.timeslots.proofs.parts.Reads as parts
use Rattle.timeslots.proofs.at.Reads as at

-- the seven parts of which this is said
span_in : SevenParts → ℕ → Span
span_in t p = record { start = (get_or t.0 p (0, 0)).0; length = (get_or t.0 p (0, 0)).1 }

layout_in : SevenParts → Layout
layout_in t =
    record {
      data1 = span_in t 0;
      tfci1 = span_in t 1;
      midamble = span_in t 2;
      tpc = span_in t 3;
      tfci2 = span_in t 4;
      data2 = span_in t 5;
      guard = span_in t 6;
      bits1 = t.1.0;
      bits2 = t.1.1;
    }

layout_said : (l : Layout) → layout_in (said_layout l) ≡ l
unfolding layout_in span_in said_layout
layout_said l = refl

said_layout_one : (l l' : Layout) → said_layout l ≡ said_layout l' → l ≡ l'
said_layout_one l l' e = sym (layout_said l) ∙ ap layout_in e ∙ layout_said l'

-- two answers that say the same are the same
pub said_parts_one : (r r' : Result Layout Refusal) → said_as said_layout r ≡ said_as said_layout r' → r ≡ r'
said_parts_one r r' e = said_as_once said_layout said_layout_one r r' e

-- what lies at a chip, of which this is said
lying_in : Part × ℕ → Lying
lying_in (DATA1, n) = lying.Symbol (Data1 n)
lying_in (TFCI1, n) = lying.Symbol (Tfci1 n)
lying_in (MIDAMBLE, n) = lying.Midamble n
lying_in (TPC, n) = lying.Symbol (Tpc n)
lying_in (TFCI2, n) = lying.Symbol (Tfci2 n)
lying_in (DATA2, n) = lying.Symbol (Data2 n)
lying_in (GUARD, n) = lying.Guard n

lying_said : (l : Lying) → lying_in (said_lying l) ≡ l
unfolding lying_in
lying_said (lying.Midamble n) = refl
lying_said (lying.Guard n) = refl
lying_said (lying.Symbol (Data1 n)) = refl
lying_said (lying.Symbol (Data2 n)) = refl
lying_said (lying.Symbol (Tfci1 n)) = refl
lying_said (lying.Symbol (Tfci2 n)) = refl
lying_said (lying.Symbol (Tpc n)) = refl

said_lying_one : (l l' : Lying) → said_lying l ≡ said_lying l' → l ≡ l'
said_lying_one l l' e = sym (lying_said l) ∙ ap lying_in e ∙ lying_said l'

pub said_at_one : (r r' : Result Lying Refusal) → said_as said_lying r ≡ said_as said_lying r' → r ≡ r'
said_at_one r r' e = said_as_once said_lying said_lying_one r r' e

pub parts_asks_nothing : (κs : _) (a : _) → parts.Pre κs a
parts_asks_nothing κs a = tt

pub parts_unique : (κs : _) (a : _) (r r' : _) (s s' : _) → parts.Post κs a r s → parts.Post κs a r' s' → r ≡ r'
parts_unique κs a r r' s s' p q = said_parts_one r r' (p ∙ sym q)

pub at_asks_nothing : (κs : _) (a : _) → at.Pre κs a
at_asks_nothing κs a = tt

pub at_unique : (κs : _) (a : _) (r r' : _) (s s' : _) → at.Post κs a r s → at.Post κs a r' s' → r ≡ r'
at_unique κs a r r' s s' p q = said_at_one r r' (p ∙ sym q)

-- `slots::same_slot` meets its contract: part by part, and two ways are the same where their numbers are.
-- Assumes nothing.
use mathlib.Core.Path.{◌≡◌, refl}
use mathlib.Core.Bool.{Bool, true, false, not, xor, beq}
use lib.Dec.{eqb}
use Rattle.std.specs.Prelude.{Option, Some, None}
use Rattle.std.specs.Option.{option_eq}
use Rattle.conditions.specs.declared.Direction.{Direction}
use Rattle.conditions.specs.declared.Direction.TheVariants.{Up, Down}
use Rattle.conditions.specs.contracts.DirectionPartialEq.TheImpl as derived
use Rattle.slots.specs.Slots.{way_number, same_slot}
use Rattle.slots.proofs.same_slot.Goals as goal

same_ways : (v w : Option Direction) → option_eq derived.eq-value.it v w ≡ eqb (way_number v) (way_number w)
unfolding way_number
same_ways None None = refl
same_ways None (Some Up) = refl
same_ways None (Some Down) = refl
same_ways (Some Up) None = refl
same_ways (Some Up) (Some Up) = refl
same_ways (Some Up) (Some Down) = refl
same_ways (Some Down) None = refl
same_ways (Some Down) (Some Up) = refl
same_ways (Some Down) (Some Down) = refl

same_truths : (a b : Bool) → beq a b ≡ not (xor a b)
unfolding xor
same_truths true true = refl
same_truths true false = refl
same_truths false true = refl
same_truths false false = refl

pub returns : goal.returns
unfolding same_slot
returns c =
    let a = c.args.a in
    let b = c.args.b in
    rw (c.eq.ensures, same_ways a.way b.way, same_truths a.second b.second)

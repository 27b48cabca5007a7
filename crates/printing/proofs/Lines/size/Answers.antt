-- The two tests of `printing::Lines::size` are what cutting a fraction off asks.
use Rattle.std.proofs.Common.{T, sym, subst}
use lib.Ieee.{of_bits, neg}
use Rattle.printing.proofs.Lines.size.Goals as goal

pub truncating_f32_to_u64-requires-clause-lower_bound :
    goal.truncating_f32_to_u64-requires-clause-lower_bound
unfolding of_bits neg
truncating_f32_to_u64-requires-clause-lower_bound g c = subst T (sym c.if-x.true) tt

pub truncating_f32_to_u64-requires-clause-upper_bound :
    goal.truncating_f32_to_u64-requires-clause-upper_bound
unfolding of_bits
truncating_f32_to_u64-requires-clause-upper_bound g c = subst T (sym c.if-x-2.true) tt

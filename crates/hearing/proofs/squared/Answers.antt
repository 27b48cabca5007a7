-- `hearing::squared` meets its contract. Assumes nothing.
use mathlib.Core.Path.{sym, ap, subst}
use lib.Dec.{T}
use lib.IntN.{ℤ, nat_abs}
use lib.Signed.{non_neg}
use mir.Syntax.{w64}
use mir.Val.{Fits}
use Rattle.samples.specs.Samples.{sample_of}
use Rattle.hearing.proofs.Square.{cast_good, product_fits, product_is, product_small}
use Rattle.hearing.proofs.squared.Goals as goal

pub float_to_int-n : goal.float_to_int-n
float_to_int-n c = cast_good c.args.x (sample_of c.args.x) c.requires.0 c.requires.1

pub overflow_mul-result : goal.overflow_mul-result
overflow_mul-result c = product_fits c.args.x (sample_of c.args.x) c.requires.0 c.requires.1

pub overflow_cast-result : goal.overflow_cast-result
overflow_cast-result c =
    subst (λ (z : ℤ). T (non_neg z) × Fits w64 (nat_abs z)) (sym (product_is c.args.x (sample_of c.args.x) c.requires.0 c.requires.1))
    (tt, record { fits = product_small c.args.x (sample_of c.args.x) c.requires.0 c.requires.1 })

pub returns : goal.returns
returns c = ap nat_abs (product_is c.args.x (sample_of c.args.x) c.requires.0 c.requires.1)

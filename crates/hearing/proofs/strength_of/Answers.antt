-- `hearing::strength_of` meets its contract. Assumes nothing.
use native.Mathlib.Omega.{arith}
use lib.IntN.{nat_abs}
use Rattle.samples.specs.Samples.{sample_of}
use Rattle.hearing.proofs.Square.{square_size}
use Rattle.hearing.proofs.strength_of.Goals as goal

pub overflow_add-result : goal.overflow_add-result
overflow_add-result c =
    let a = square_size (nat_abs (sample_of c.args.re)) c.requires.re_value.1 in
    let b = square_size (nat_abs (sample_of c.args.im)) c.requires.im_value.1 in
    record { fits = omega (arith, c.squared.ensures, c.squared-2.ensures) }

pub returns : goal.returns
returns c = omega (arith, c.squared.ensures, c.squared-2.ensures)

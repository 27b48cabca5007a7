-- `samples::is_sample` meets its contract: its test is that of Test.antt. Assumes nothing.
use lib.Ieee.{of_bits, neg}
use Rattle.samples.proofs.Test.{test_is}
use Rattle.samples.proofs.is_sample.Goals as goal

pub returns : goal.returns
unfolding of_bits neg
returns c = test_is c.args.x

-- `codes::code_of` meets its contract: the two lines of the table.
-- Assumes nothing.
use borrow.Author.Tests.{eq-eqb, ne_eqb}
use Rattle.codes.specs.Codes.{code_of}
use Rattle.codes.proofs.code_of.Goals as goal

pub returns-then-burst-eq2 : goal.returns-then-burst-eq2
unfolding code_of
returns-then-burst-eq2 c = simp (eq-eqb _ _ c.if-burst-eq2.true)

pub returns : goal.returns
unfolding code_of
returns c = simp (ne_eqb _ _ c.if-burst-eq2.false)

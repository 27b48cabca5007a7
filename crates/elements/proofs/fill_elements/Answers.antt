-- `elements::fill_elements` meets its contract: the burst type picks the rows.
-- Assumes nothing.
use Rattle.elements.proofs.Rows.{short_served, long_served}
use Rattle.elements.proofs.fill_elements.Goals as goal

pub returns-then-burst-eq2 : goal.returns-then-burst-eq2
returns-then-burst-eq2 c = short_served _ _ _ _ _ _ c.if-burst-eq2.true c.fill_short.ensures

pub returns : goal.returns
returns c = long_served _ _ _ _ _ _ c.if-burst-eq2.false c.fill_long.ensures

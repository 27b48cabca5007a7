-- Each seat is tested. Assumes nothing.
use mathlib.Core.Path.{◌∙◌}
use Rattle.std.proofs.Common.{rules}
use Rattle.std.proofs.lemmas.Iterator.{YieldsList-from_slice}
use Rattle.std.proofs.lemmas.Iterator.Search.{all_from_yields_List}
use Rattle.mqarbset_book.specs.Mirror.{proper_seat, proper}
use Rattle.mqarbset_book.proofs.Copied.{every_all}
use Rattle.mqarbset_book.proofs.MqBook.is_proper.Goals as goal

pub returns : goal.returns
unfolding proper
returns c =
    all_from_yields_List proper_seat _ _ _ c.all.ensures.ran (YieldsList-from_slice c.args.self.now.seats cc) (λ x b q k. search rules)
    ∙ every_all proper_seat c.args.self.now.seats

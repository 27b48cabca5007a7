-- Each place and each timeslot is tested. Assumes nothing.
use mathlib.Core.Path.{◌∙◌}
use Rattle.std.proofs.Common.{◌≡◌, rules}
use Rattle.std.proofs.lemmas.Iterator.{YieldsList-from_slice}
use Rattle.std.proofs.lemmas.Iterator.Search.{all_from_yields_List}
use Rattle.laws.specs.Lists.{every}
use Rattle.mqarbset_book.specs.Mirror.{neither, proper_booking, proper_slot, proper_seat}
use Rattle.mqarbset_book.proofs.Copied.{every_all}
use Rattle.mqarbset_book.proofs.MqSeat.is_proper.Goals as goal

pub returns : goal.returns
unfolding neither proper_seat
returns c =
    let row : c.all.result ≡ every proper_booking c.args.self.now.row =
    all_from_yields_List proper_booking _ _ _ c.all.ensures.ran (YieldsList-from_slice c.args.self.now.row cc) (λ x b q k. search rules)
    ∙ every_all proper_booking c.args.self.now.row in
    let slots : c.all-2.result ≡ every proper_slot c.args.self.now.slots =
    all_from_yields_List proper_slot _ _ _ c.all-2.ensures.ran (YieldsList-from_slice c.args.self.now.slots cc) (λ x b q k. search rules)
    ∙ every_all proper_slot c.args.self.now.slots in
    simp (row, slots)

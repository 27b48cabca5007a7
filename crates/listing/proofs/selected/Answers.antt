-- `listing::selected` meets its contract: 11 and nothing, or the list by value.
-- Assumes nothing.
use mathlib.Core.Path.{sym, ap, ◌∙◌}
use Prim.Native.Nat.{ℕ}
use Rattle.refusals.specs.Refusals.{number_of}
use Rattle.refusals.proofs.First.{first_holds, first_passes}
use Rattle.classbook.specs.Book.{seat_of}
use Rattle.classbook.specs.Calls.{list_with, list_answer}
use Rattle.classbook.proofs.Answers.{list_refused}
use Rattle.listing.specs.Inside.{selection_of}
use Rattle.listing.proofs.selected.Goals as goal

pub returns-in_err-when : goal.returns-in_err-when
unfolding selection_of number_of
returns-in_err-when c =
    let e = c.in_err-when.ensures.refused in
    list_refused _ _ _ (seat_of c.args.b.now c.args.seat) c.from_residual.ensures.1
    (ap number_of e.0 ∙ sym (first_holds 11 _ _ (sym c.few_records.ensures ∙ e.1)))

pub returns : goal.returns
unfolding selection_of list_answer
returns c =
    c.list_seat.ensures
    ∙ ap (λ (n : ℕ). list_with n (seat_of c.args.b.now c.args.seat)) (sym (first_passes 11 _ _ (sym c.few_records.ensures ∙ c.in_ok-when.ensures.passed)))

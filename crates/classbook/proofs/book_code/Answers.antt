-- `classbook::book_code` meets its contract: refused by its own numbers, or booked.
-- Assumes nothing.
use mathlib.Core.Path.{sym, ap, ◌∙◌}
use Rattle.refusals.proofs.Numbers.{number_not_0}
use Rattle.bookings.specs.declared.Booking.{Booking}
use Rattle.classbook.specs.Calls.{request_refusals, book_answer}
use Rattle.classbook.specs.Inside.{booking_answer}
use Rattle.classbook.proofs.Answers.{refused_by}
use Rattle.classbook.proofs.Made.{book_early, book_late, form_kept}
use Rattle.classbook.proofs.Small.{request_small}
use Rattle.classbook.proofs.book_code.Goals as goal

pub returns-in_err-check_form : goal.returns-in_err-check_form
unfolding book_answer request_refusals
returns-in_err-check_form c = refused_by _ _ _ _ _ c.from_residual.ensures.1 (book_early c.args.b.now c.args.seat c.args.x _ c.in_err-check_form.ensures.table (number_not_0 c.in_err-check_form.field-0.0))

pub kept-requires : goal.kept-requires
unfolding request_refusals
kept-requires c =
    let s = request_small c.args.x (sym c.in_ok-check_form.ensures.table) in
    (s.timeslot_high, s.burst_high, s.factor_high, s.index_high, s.user_in, s.tfci_high, s.tpc_high)

pub book_kept-requires : goal.book_kept-requires
unfolding request_refusals
book_kept-requires c = form_kept c.args.x _ (sym c.in_ok-check_form.ensures.table) c.kept.ensures

pub returns : goal.returns
unfolding request_refusals
returns c =
    let a = c.args in
    c.book_kept.ensures
    ∙ ap (λ (y : Booking). booking_answer a.b.now a.seat y) c.kept.ensures
    ∙ book_late a.b.now a.seat a.x (sym c.in_ok-check_form.ensures.table)

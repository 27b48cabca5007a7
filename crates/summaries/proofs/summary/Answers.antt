-- `summaries::summary` meets its contract: refused by its timeslot or its seat, or what is kept there, which is what the bookings say.
-- Assumes nothing.
use mathlib.Core.Path.{sym, ap, ◌∙◌}
use Rattle.refusals.specs.declared.Refusal.{Refusal}
use Rattle.refusals.specs.Refusals.{refused, answered, number_of}
use Rattle.refusals.proofs.Numbers.{number_not_0}
use Rattle.classbook.specs.Calls.{SeatAnswer, seat_answer}
use Rattle.summaries.specs.declared.Glance.{Glance}
use Rattle.summaries.specs.Summaries.{glance_said}
use Rattle.summaries.proofs.Answered.{said_refused, refused_5, refused_by_seat, summed}
use Rattle.summaries.proofs.Said.{said_whole}
use Rattle.summaries.proofs.summary.Goals as goal

pub returns-in_err-when : goal.returns-in_err-when
unfolding number_of glance_said
returns-in_err-when c =
    let e = c.in_err-when.ensures.refused in
    said_whole _ ∙ said_refused _ _ c.from_residual.ensures.1
    ∙ ap (λ (r : Refusal). refused (number_of r)) e.0
    ∙ refused_5 c.args.b.now c.args.seat c.args.timeslot (sym c.bad_timeslot.ensures ∙ e.1)

pub returns-in_err-s : goal.returns-in_err-s
unfolding seat_answer glance_said
returns-in_err-s c =
    said_whole _ ∙ said_refused _ _ c.from_residual-in_err-s.ensures.1
    ∙ refused_by_seat c.args.b.now c.args.seat c.args.timeslot (sym c.bad_timeslot.ensures ∙ c.in_ok-when.ensures.passed) _
    (ap (λ (r : SeatAnswer). r.refusal) c.in_err-s.ensures) (number_not_0 c.in_err-s.field-0.0)

pub returns : goal.returns
unfolding seat_answer glance_said
returns c =
    ap (λ (g : Glance). answered g) c.from.ensures
    ∙ summed c.args.b.now c.args.seat c.args.timeslot (sym c.bad_timeslot.ensures ∙ c.in_ok-when.ensures.passed) c.in_ok-s.s _
    (ap (λ (r : SeatAnswer). r.refusal) c.in_ok-s.ensures) (ap (λ (r : SeatAnswer). r.seat) c.in_ok-s.ensures)

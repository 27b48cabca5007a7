-- `classbook::open_seat` meets its contract: refused, or the seat is open with its settings.
-- Assumes nothing.
use mathlib.Core.Path.{◌≡◌, sym, ap, ◌∙◌}
use Prim.Native.Nat.{ℕ}
use native.Mathlib.Omega.{arith}
use Rattle.refusals.specs.Refusals.{number_of}
use Rattle.seats.specs.declared.Seat.{Seat}
use Rattle.seats.specs.Seats.{opened}
use Rattle.classbook.specs.Book.{with_seat}
use Rattle.classbook.specs.Calls.{long_count, short_count, open_seat, open_answer}
use Rattle.classbook.proofs.Answers.{refused_by, made_by}
use Rattle.classbook.proofs.Tables.{open_table}
use Rattle.classbook.proofs.Passed.{open_passed}
use Rattle.classbook.proofs.Made.{settings_passed}
use Rattle.classbook.proofs.Small.{settings_small}
use Rattle.classbook.proofs.open_seat.Goals as goal

pub returns-in_err-check_open : goal.returns-in_err-check_open
unfolding open_answer
returns-in_err-check_open c =
    let a = c.args in
    let e = c.check-found.ensures in
    refused_by _ _ _ _ _ c.from_residual.ensures.1
    (open_table a.b.now a.seat (number_of c.in_err-check_open.field-0.0) _ _ e.0 e.2 a.cell a.case a.k a.long a.short _ _
    c.long_count-l.ensures c.short_count-s.ensures c.in_err-check_open.ensures)

pub opened_seat-requires : goal.opened_seat-requires
opened_seat-requires c =
    let a = c.args in
    let e = c.check-found.ensures in
    let z = open_table a.b.now a.seat 0 _ _ e.0 e.2 a.cell a.case a.k a.long a.short _ _ c.long_count-l.ensures c.short_count-s.ensures c.in_ok-check_open.ensures in
    let s = settings_small a.cell a.case a.k (long_count a.long) (short_count a.short) (settings_passed a.b.now a.seat a.cell a.case a.k a.long a.short (sym z)) in
    omega (arith, s.cell_high, s.case_two, s.k_high, s.long_high, s.short_high, c.long_count-l.ensures, c.short_count-s.ensures)

pub exchange-requires : goal.exchange-requires
exchange-requires c =
    let a = c.args in
    let e = c.check-found.ensures in
    let z = open_table a.b.now a.seat 0 _ _ e.0 e.2 a.cell a.case a.k a.long a.short _ _ c.long_count-l.ensures c.short_count-s.ensures c.in_ok-check_open.ensures in
    omega (arith, (open_passed a.b.now a.seat a.cell a.case a.k a.long a.short (sym z)).seat_low)

pub returns : goal.returns
unfolding open_answer open_seat
returns c =
    let a = c.args in
    let e = c.check-found.ensures in
    let made : c.opened_seat.result ≡ opened a.cell a.case a.k (long_count a.long) (short_count a.short)
    = c.opened_seat.ensures
    ∙ ap (λ (i : ℕ). opened a.cell a.case a.k i c.short_count-s.result) c.long_count-l.ensures
    ∙ ap (λ (i : ℕ). opened a.cell a.case a.k (long_count a.long) i) c.short_count-s.ensures in
    made_by _ _ _ _
    (open_table a.b.now a.seat 0 _ _ e.0 e.2 a.cell a.case a.k a.long a.short _ _ c.long_count-l.ensures c.short_count-s.ensures c.in_ok-check_open.ensures)
    (c.exchange.ensures ∙ ap (λ (s : Seat). with_seat a.b.now a.seat s) made)

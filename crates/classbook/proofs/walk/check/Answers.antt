-- `classbook::walk::check` meets its contract: the seats passed meet their conditions, what was summed and what is left to sum make the common room, and the seat is the one that is named.
-- Assumes nothing.
use mathlib.Core.Path.{◌≡◌, refl, ap, ◌∙◌}
use mathlib.Core.Bool.{Bool, ◌&&◌}
use Prim.Native.Nat.{ℕ, ◌+◌}
use native.Mathlib.Nat.{zero-add}
use native.Mathlib.Omega.{arith}
use lib.Dec.{leb}
use lib.ListN.{length, take, drop}
use lib.Seq.{take_all}
use Rattle.laws.specs.Lists.{every, total}
use Rattle.laws.proofs.Rows.{turn, ended, turn_sum, ended_sum}
use Rattle.seats.specs.Seats.{seat_ok}
use Rattle.classbook.specs.declared.Book.{Book}
use Rattle.classbook.specs.Book.{beyond, common, book_ok}
use Rattle.classbook.proofs.walk.check.Goals as goal

as-defined : (b : Book) (ok : Bool) (used : ℕ) → ok ≡ every seat_ok b.seats → used ≡ total beyond b.seats → ((ok && leb used 80) ≡ book_ok b) × (used ≡ common b)
unfolding book_ok common
as-defined b ok used eo eu = (rw (eo, eu), eu)

pub loop-s-init : goal.loop-s-init
loop-s-init c =
    let h : length c.args.b.now.seats ≡ 16 = omega arith in
    let whole = take_all 16 c.args.b.now.seats (omega arith) in
    (ap (every seat_ok) whole, omega arith, zero-add _ ∙ ap (total beyond) whole)

pub loop-s-preserved : goal.loop-s-preserved
unfolding every
loop-s-preserved c =
    let l = c.loop-s in
    let seats = c.args.b.now.seats in
    let h : length seats ≡ 16 = omega arith in
    let e = c.passed-t.ensures in (
      ap (λ (ok : Bool). ok && every seat_ok (drop (l.s-index + 1) (take 16 seats))) e.0
          ∙ turn seats 16 l.s-index (every seat_ok) (λ x _. seat_ok x) (λ x l. refl) _ l.t.ok _ _ (omega arith) (omega arith) l.invariant.0 refl,
      omega (arith, e.1, l.invariant.1),
      ap (λ (n : ℕ). n + total beyond (drop (l.s-index + 1) (take 16 seats))) e.1
          ∙ turn_sum seats 16 l.s-index beyond _ l.t.used _ _ (omega arith) (omega arith) l.invariant.2 refl,
    )

pub returns : goal.returns
unfolding every
returns c =
    let l = c.loop-s in
    let h : length c.args.b.now.seats ≡ 16 = omega arith in
    let e = as-defined c.args.b.now l.t.ok l.t.used (ended c.args.b.now.seats 16 l.s-index (every seat_ok) refl l.t.ok _ (omega arith) l.invariant.0)
    (ended_sum c.args.b.now.seats 16 l.s-index beyond l.t.used _ (omega arith) l.invariant.2) in
    (e.0, e.1, c.seat_named.ensures)

-- `seats::valid::row_ok` meets its contract: what was passed holds, and the rest is to be tested; one that may not stand decides.
-- Assumes nothing.
use mathlib.Core.Path.{◌≡◌, refl, sym, ap, ◌∙◌}
use mathlib.Core.Bool.{Bool, true, ◌&&◌}
use mathlib.Core.List.{List}
use Prim.Native.Nat.{ℕ, ◌+◌, ◌≤◌, ◌<◌}
use native.Mathlib.Omega.{arith}
use lib.ListN.{length, take, length-take}
use lib.Seq.{take_all}
use Rattle.std.specs.List.{list_all, zip}
use Rattle.laws.specs.Lists.{every, chain, pairs, matches}
use Rattle.laws.proofs.Bools.{fails_first}
use Rattle.laws.proofs.Rows.{left_turn, left_ended, goes_on, stops}
use Rattle.bookings.specs.declared.Booking.{Booking}
use Rattle.bookings.specs.Bookings.{comes}
use Rattle.slots.specs.declared.Slot.{Slot}
use Rattle.slots.specs.Slots.{same_slot, summary_of}
use Rattle.slots.proofs.ByMasks.{no_clash}
use Rattle.slots.proofs.Summary.{fifteen}
use Rattle.seats.specs.declared.Seat.{Seat}
use Rattle.seats.specs.Seats.{held, bookings, stands_in}
use Rattle.seats.proofs.Walked.{stood_on, forms_on, form_here, timeslot_here, count_here, walk_on, two_by_two}
use Rattle.seats.proofs.Sorted.{next_key, sorted_on, next_on}
use Rattle.seats.proofs.Free.{all_free}
use Rattle.seats.proofs.valid.row_ok.Goals as goal

-- what the loop told, where all are passed, and the two summaries
told : (s : Seat) (row : List Booking) (i : ℕ) (made : List Slot) (ok same sorted : Bool) → row ≡ bookings s → length row ≤ i → length s.slots ≡ 15
    → every (stands_in s) row ≡ true → made ≡ summary_of (take i row) → ok ≡ pairs no_clash (take i row) → sorted ≡ chain comes (take i row)
    → same ≡ list_all (λ p. same_slot p.0 p.1) (zip s.slots made)
    → ((ok && same) && sorted)
    ≡ (every (stands_in s) (bookings s) && ((pairs no_clash (bookings s) && matches same_slot s.slots (summary_of (bookings s))) && chain comes (bookings s)))
told s row i made ok same sorted er le wide es em eo eo' ea =
    let all : take i row ≡ bookings s = take_all i row le ∙ er in
    let slots : made ≡ summary_of (bookings s) = em ∙ ap summary_of all in
    let as_wide : length s.slots ≡ length made = omega (arith, wide, ap length slots, fifteen (bookings s)) in
    let stand : every (stands_in s) (bookings s) ≡ true = sym (ap (every (stands_in s)) er) ∙ es in
    let same_told : same ≡ matches same_slot s.slots (summary_of (bookings s)) = ea ∙ two_by_two same_slot s.slots made as_wide ∙ ap (matches same_slot s.slots) slots in
    rw (stand, eo ∙ ap (pairs no_clash) all, same_told, eo' ∙ ap (chain comes) all)

pub loop-x-init : goal.loop-x-init
unfolding every pairs chain next_key
loop-x-init c = (refl, refl, all_free c.no_slot-made.result c.no_slot-made.ensures, refl, refl, refl)

pub returns-then-not-may_stand : goal.returns-then-not-may_stand
unfolding every
returns-then-not-may_stand c =
    let l = c.loop-x in
    let s = c.args.s.now in
    fails_first _ _ (stops c.may_stand.result _ _
    (left_turn c.bookings-row.result.now l.x-index (every (stands_in s)) (λ x _. stands_in s x) (λ x r. refl) _
    true c.may_stand.result _ (omega arith) l.invariant.1 c.may_stand.ensures) c.if-not-may_stand.true
    ∙ ap (every (stands_in s)) c.bookings-row.ensures)

pub bounds-made-t : goal.bounds-made-t
bounds-made-t c =
    let l = c.loop-x in
    let s = c.args.s.now in
    let row = c.bookings-row.result.now in
    timeslot_here row (l.x-index + 1) l.x-index _ (omega arith) (omega arith)
    (forms_on s.case s.k s.long s.short row l.x-index _ (omega arith) l.invariant.0 (sym c.may_stand.ensures ∙ c.if-not-may_stand.false))

pub hits-requires : goal.hits-requires
hits-requires c =
    let l = c.loop-x in
    let s = c.args.s.now in
    let row = c.bookings-row.result.now in
    (form_here row (l.x-index + 1) l.x-index _ (omega arith) (omega arith)
    (forms_on s.case s.k s.long s.short row l.x-index _ (omega arith) l.invariant.0 (sym c.may_stand.ensures ∙ c.if-not-may_stand.false))).code_good

pub joined-requires : goal.joined-requires
joined-requires c =
    let l = c.loop-x in
    let s = c.args.s.now in
    let row = c.bookings-row.result.now in
    let wide : l.x-index + 1 ≤ length row = omega arith in
    let few : length row ≤ 40 = omega (arith, ap length c.bookings-row.ensures, length-take (held s) s.row) in
    let forms = forms_on s.case s.k s.long s.short row l.x-index _ (omega arith) l.invariant.0 (sym c.may_stand.ensures ∙ c.if-not-may_stand.false) in (
      (form_here row (l.x-index + 1) l.x-index _ wide (omega arith) forms).code_good,
      count_here row (l.x-index + 1) l.x-index _ wide (omega arith) forms l.made _ l.invariant.2 (omega arith),
    )

pub bounds-made-t-in-loop-x : goal.bounds-made-t-in-loop-x
bounds-made-t-in-loop-x c =
    let l = c.loop-x in
    let s = c.args.s.now in
    let row = c.bookings-row.result.now in
    timeslot_here row (l.x-index + 1) l.x-index _ (omega arith) (omega arith)
    (forms_on s.case s.k s.long s.short row l.x-index _ (omega arith) l.invariant.0 (sym c.may_stand.ensures ∙ c.if-not-may_stand.false))

pub loop-x-preserved : goal.loop-x-preserved
unfolding every
loop-x-preserved c =
    let l = c.loop-x in
    let s = c.args.s.now in
    let row = c.bookings-row.result.now in
    let here : l.x-index < length row = omega arith in
    let fit = sym c.may_stand.ensures ∙ c.if-not-may_stand.false in
    let w = walk_on row (l.x-index + 1) l.x-index _ (omega arith) (omega arith)
    (forms_on s.case s.k s.long s.short row l.x-index _ here l.invariant.0 fit) l.made _ l.invariant.2
    c.joined.result l.ok c.hits.result c.joined.ensures c.hits.ensures l.invariant.3 in (
      stood_on s.case s.k s.long s.short row l.x-index _ here l.invariant.0 fit,
      goes_on c.may_stand.result _ _
          (left_turn row l.x-index (every (stands_in s)) (λ x _. stands_in s x) (λ x r. refl) _ true c.may_stand.result _ here l.invariant.1 c.may_stand.ensures)
          c.if-not-may_stand.false,
      w.0,
      w.1,
      sorted_on row l.x-index _ here l.next c.key_of-key.result l.sorted l.invariant.4 l.invariant.5 c.key_of-key.ensures.0,
      next_on row l.x-index _ here l.next c.key_of-key.result l.sorted c.key_of-key.ensures.0,
    )

pub returns : goal.returns
unfolding every
returns c =
    let l = c.loop-x in
    let s = c.args.s.now in
    let row = c.bookings-row.result.now in
    told s row l.x-index l.made l.ok c.same_slots.result l.sorted c.bookings-row.ensures (omega arith) (omega arith)
    (sym (left_ended row l.x-index (every (stands_in s)) refl true _ (omega arith) l.invariant.1))
    l.invariant.2 l.invariant.3 l.invariant.4 c.same_slots.ensures

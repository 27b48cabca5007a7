-- The summary of a seat, timeslot by timeslot: what it has at a timeslot, and that one exchanged makes the summary of other bookings. Cited by the crates seats, plans and
-- summaries. Assumes nothing.
use mathlib.Core.Path.{◌≡◌, refl, sym, ◌∙◌}
use mathlib.Core.Logic.{⊎_elim}
use mathlib.Core.Bool.{Bool, true, false, not, xor}
use mathlib.Core.List.{List}
use Prim.Native.Nat.{ℕ, ◌≤◌}
use native.Mathlib.Omega.{arith}
use lib.Dec.{eqb}
use lib.ListN.{length, get_or, set, length-set}
use lib.Seq.{get_or-set_same, get_or-set_other, ext_get_or}
use Rattle.std.specs.Prelude.{Option, Some, None}
use borrow.Author.Tests.{eqb-true, eq-eqb}
use Rattle.laws.proofs.Bools.{and_true}
use Rattle.laws.proofs.Cases.{below, equal_or_not}
use Rattle.bookings.specs.declared.Booking.{Booking}
use Rattle.conditions.specs.declared.Direction.{Direction}
use Rattle.conditions.specs.declared.Direction.TheVariants as dir
use Rattle.slots.specs.declared.Slot.{Slot}
use Rattle.slots.specs.Slots.{slot_of, summary_of, way_number, same_slot}

pub fifteen : (l : List Booking) → length (summary_of l) ≡ 15
unfolding summary_of
fifteen l = refl

pub summary_at : (l : List Booking) (d : Slot) (t : ℕ) → t ≤ 14 → get_or (summary_of l) t d ≡ slot_of t l
unfolding summary_of
summary_at l d t h =
    below (λ t. get_or (summary_of l) t d ≡ slot_of t l) 15
    (((((((((((((((tt, refl), refl), refl), refl), refl), refl), refl), refl), refl), refl), refl), refl), refl), refl), refl) t (omega arith)

-- the summary of l with another timeslot t is that of m, where all other timeslots say the same
pub summary_set : (l m : List Booking) (t : ℕ) (v : Slot) → t ≤ 14 → v ≡ slot_of t m → ((u : ℕ) → (u ≡ t → ⊥) → slot_of u l ≡ slot_of u m) → set (summary_of l) t v ≡ summary_of m
summary_set l m t v low ev others =
    let d = slot_of 0 m in
    let wide : length (set (summary_of l) t v) ≡ 15 = simp length-set (fifteen l) in
    ext_get_or d (set (summary_of l) t v) (summary_of m) (wide ∙ sym (fifteen m)) (λ u h.
    let high : u ≤ 14 = omega arith in
    ⊎_elim
    (λ e. rw e (get_or-set_same (summary_of l) t v d (omega (arith, fifteen l)) ∙ ev ∙ sym (summary_at m d t low)))
    (λ n. get_or-set_other (summary_of l) t u v d n ∙ summary_at l d u high ∙ others u n ∙ sym (summary_at m d u high))
    (equal_or_not u t))

-- ---- the test of two slots
way_only : (v w : Option Direction) → way_number v ≡ way_number w → v ≡ w
unfolding way_number
way_only (Some dir.Up) (Some dir.Up) e = refl
way_only (Some dir.Down) (Some dir.Down) e = refl
way_only None None e = refl
way_only (Some dir.Up) (Some dir.Down) e = absurd (omega arith)
way_only (Some dir.Up) None e = absurd (omega arith)
way_only (Some dir.Down) (Some dir.Up) e = absurd (omega arith)
way_only (Some dir.Down) None e = absurd (omega arith)
way_only None (Some dir.Up) e = absurd (omega arith)
way_only None (Some dir.Down) e = absurd (omega arith)

truth_only : (a b : Bool) → not (xor a b) ≡ true → a ≡ b
unfolding xor
truth_only true true e = refl
truth_only false false e = refl
truth_only true false e = sym e
truth_only false true e = e

pub same_only : (a b : Slot) → same_slot a b ≡ true → a ≡ b
unfolding same_slot
same_only a b e =
    let p = and_true (eqb a.leaves b.leaves) _ e in
    let q = and_true (eqb (way_number a.way) (way_number b.way)) _ p.1 in
    let r = and_true (eqb a.count b.count) (not (xor a.second b.second)) q.1 in
    equal a.leaves a.way a.count a.second b.leaves b.way b.count b.second
    (eqb-true _ _ p.0) (way_only _ _ (eqb-true _ _ q.0)) (eqb-true _ _ r.0) (truth_only _ _ r.1)
  where
    equal : (m : ℕ) (v : Option Direction) (c : ℕ) (s : Bool) (n : ℕ) (w : Option Direction) (k : ℕ) (u : Bool) → m ≡ n → v ≡ w → c ≡ k → s ≡ u
        → ◌≡◌ {A = Slot} (record { leaves = m; way = v; count = c; second = s }) (record { leaves = n; way = w; count = k; second = u })
    equal m v c s n w k u em ev ec es = rw (em, ev, ec, es)

same_truth : (a : Bool) → not (xor a a) ≡ true
unfolding xor
same_truth true = refl
same_truth false = refl

pub same_self : (a : Slot) → same_slot a a ≡ true
unfolding same_slot
same_self a = simp (eq-eqb a.leaves a.leaves refl, eq-eqb (way_number a.way) (way_number a.way) refl, eq-eqb a.count a.count refl, same_truth a.second)

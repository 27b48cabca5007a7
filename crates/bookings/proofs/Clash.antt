-- Two bookings clash whichever is named first; and what holds of two of one timeslot that do not. Cited by the crates slots, plans and facts.
-- Assumes nothing.
use mathlib.Core.Path.{◌≡◌, refl, sym, ◌∙◌}
use mathlib.Core.Logic.{⊎_elim}
use mathlib.Core.Bool.{true, false, not, ◌||◌, and_comm}
use Prim.Native.Nat.{ℕ, ◌+◌}
use lib.Dec.{eqb, ltb}
use borrow.Author.Tests.{eqb-true, eqb-false, eq-eqb, ne_eqb, not-false}
use Rattle.laws.proofs.Bools.{true_false, or_false}
use Rattle.laws.proofs.Cases.{by_cases}
use Rattle.conditions.specs.declared.Direction.{Direction}
use Rattle.conditions.specs.declared.Direction.TheVariants.{Up, Down}
use Rattle.conditions.specs.Conditions.{is_down}
use Rattle.leaves.specs.Leaves.{leaves_of}
use Rattle.bookings.specs.declared.Booking.{Booking}
use Rattle.bookings.specs.Bookings.{leaf, overlaps, same_direction, mixed, clash}
use Rattle.bookings.proofs.Types.{alike, mixed_turn}

pub eqb_turn : (m n : ℕ) → eqb m n ≡ eqb n m
eqb_turn m n =
    ⊎_elim (λ t. t ∙ sym (eq-eqb n m (sym (eqb-true m n t)))) (λ f. f ∙ sym (ne_eqb n m (λ e. eqb-false m n f (sym e)))) (by_cases (eqb m n))

direction_turn : (d e : Direction) → same_direction d e ≡ same_direction e d
unfolding same_direction is_down
direction_turn Up Up = refl
direction_turn Up Down = refl
direction_turn Down Up = refl
direction_turn Down Down = refl

pub clash_turn : (x y : Booking) → clash x y ≡ clash y x
unfolding clash overlaps
clash_turn x y =
    rw (
      eqb_turn x.timeslot y.timeslot,
      direction_turn x.direction y.direction,
      mixed_turn x.burst y.burst,
      and_comm (ltb (leaf x) (leaf y + leaves_of y.factor)) (ltb (leaf y) (leaf x + leaves_of x.factor)),
    )

-- ---- two of one timeslot that do not clash
pub record Beside (x y : Booking) : Type 0 where
  pub same : is_down x.direction ≡ is_down y.direction
  pub kind : eqb x.burst 2 ≡ eqb y.burst 2

same_down : (d e : Direction) → same_direction d e ≡ true → is_down d ≡ is_down e
unfolding same_direction is_down
same_down Up Up t = refl
same_down Up Down t = true_false (sym t)
same_down Down Up t = true_false (sym t)
same_down Down Down t = refl

pub beside : (x y : Booking) → clash x y ≡ false → x.timeslot ≡ y.timeslot → Beside x y
unfolding clash
beside x y h s =
    let rest = simp (eq-eqb x.timeslot y.timeslot s) at h in
    let a = or_false (not (same_direction x.direction y.direction)) (mixed x.burst y.burst || overlaps x y) rest in
    let b = or_false (mixed x.burst y.burst) (overlaps x y) a.1 in
    record { same = same_down _ _ (not-false _ a.0); kind = (alike x.burst y.burst).0 b.0 }

-- Document 01, "The class book": when two bookings of one seat clash, with each ground as it is
-- meant (which types clash is document 02's), and 17, "clash inside this seat's own cell". No
-- function's proof cites it: it is for the reader. Assumes nothing.
use mathlib.Core.Path.{◌≡◌, refl, sym, ap, ◌∙◌}
use mathlib.Core.Bool.{Bool, true, false, not, xor, ◌||◌}
use mathlib.Core.List.{List, [], ◌∷◌, map}
use mathlib.Core.Logic.Iff
use mathlib.Core.Logic.{◌↔◌, ◌⊎◌, inl, inr, ⊎_elim, ⊎_map}
use mathlib.Mathlib.Logic.Basic.{Xor}
use mathlib.Mathlib.Data.Bool.Basic.{coe-xor_iff}
use Prim.Native.Nat.{ℕ, suc, ◌<◌}
use native.Mathlib.Omega.{arith}
use lib.Dec.{eqb}
use lib.ListN.{length, get_or}
use borrow.Author.Tests.{eqb-true, eq-eqb}
use Rattle.laws.specs.Lists.{every}
use Rattle.laws.proofs.Bools.{true_false, and_true, both}
use Rattle.laws.proofs.Cases.{by_cases}
use Rattle.laws.proofs.Lists.{every_at}
use Rattle.conditions.specs.declared.Direction.{Direction}
use Rattle.conditions.specs.declared.Direction.TheVariants.{Up, Down}
use Rattle.conditions.specs.Conditions.{is_down}
use Rattle.bookings.specs.declared.Booking.{Booking}
use Rattle.bookings.specs.Bookings.{overlaps, same_direction, mixed, clash}
use Rattle.seats.specs.Seats.{blank}
use Rattle.seats.specs.Conditions.{clashes_with}
use Rattle.facts.specs.Codes.{Good, SharedLeaf}
use Rattle.facts.proofs.Codes.{overlap_shared}

-- ---- the grounds of a clash, as tests and as they are meant
or_either : (a b : Bool) → ((a || b) ≡ true) ↔ ((a ≡ true) ⊎ (b ≡ true))
or_either true b = (λ e. inl refl, λ e. refl)
or_either false b = (inr, ⊎_elim (λ e. true_false (sym e)) (λ e. e))

directions_differ : (d e : Direction) → (not (same_direction d e) ≡ true) ↔ (d ≡ e → ⊥)
unfolding same_direction is_down
directions_differ Up Up = (λ e. true_false (sym e), λ h. absurd (h refl))
directions_differ Down Down = (λ e. true_false (sym e), λ h. absurd (h refl))
directions_differ Up Down = (λ t e. true_false (sym (ap is_down e)), λ h. refl)
directions_differ Down Up = (λ t e. true_false (ap is_down e), λ h. refl)

carried : {A B C D : Type 0} → A ↔ C → B ↔ D → Xor A B → Xor C D
carried a b =
    ⊎_map (λ s. (a.0 s.0, λ d. s.1 (b.1 d))) (λ s. (b.0 s.0, λ c. s.1 (a.1 c)))

is_two : (t : ℕ) → (eqb t 2 ≡ true) ↔ (t ≡ 2)
is_two t = (eqb-true t 2, eq-eqb t 2)

-- document 02: "the types clash if exactly one of them is type 2"
pub types_clash : (t u : ℕ) → (mixed t u ≡ true) ↔ Xor (t ≡ 2) (u ≡ 2)
unfolding mixed
types_clash t u =
    let a = is_two t in
    let b = is_two u in
    Iff.trans (coe-xor_iff (eqb t 2) (eqb u 2)) (carried a b, carried (Iff.symm a) (Iff.symm b))

-- of the types that there are, a row for each of 1, 2 and 3: type 2 clashes with 1 and 3, and
-- these two lie beside each other
pub types_that_clash :
    map (λ t. map (mixed t) (1 ∷ 2 ∷ 3 ∷ [])) (1 ∷ 2 ∷ 3 ∷ [])
    ≡ (false ∷ true ∷ false ∷ []) ∷ (true ∷ false ∷ true ∷ []) ∷ (false ∷ true ∷ false ∷ []) ∷ []
unfolding mixed xor
types_that_clash = refl

-- ---- two bookings of good codes
module _ (x y : Booking) (gx : Good x.factor x.index) (gy : Good y.factor y.index) where
  abbrev Shared : Type 0
  Shared = SharedLeaf x.factor x.index y.factor y.index

  -- "exactly one of them is type 2"
  abbrev OneIsTwo : Type 0
  OneIsTwo = Xor (x.burst ≡ 2) (y.burst ≡ 2)

  abbrev Grounds : Type 0
  Grounds = (x.direction ≡ y.direction → ⊥) ⊎ (OneIsTwo ⊎ Shared)

  -- "Two bookings of one seat clash if their timeslots are equal and their directions differ, or
  -- their burst types" clash, "or their codes overlap."
  pub clash_grounds : (clash x y ≡ true) ↔ ((x.timeslot ≡ y.timeslot) × Grounds)
  unfolding clash
  clash_grounds =
      let slot = eqb x.timeslot y.timeslot in
      let one = not (same_direction x.direction y.direction) in
      let two = mixed x.burst y.burst in
      let three = overlaps x y in
      let d = directions_differ x.direction y.direction in
      let t = types_clash x.burst y.burst in
      let o = overlap_shared x y gx gy in
      let first = or_either one (two || three) in
      let later = or_either two three in (
        λ e.
            let c = and_true slot (one || (two || three)) e in (
              eqb-true _ _ c.0,
              ⊎_map d.0 (λ h. ⊎_map t.0 o.0 (later.0 h)) (first.0 c.1),
            ),
        λ g.
            both slot (one || (two || three)) (eq-eqb _ _ g.0)
            (first.1 (⊎_map d.1 (λ h. later.1 (⊎_map t.1 o.1 h)) g.1)),
      )

  -- so that two of one timeslot and direction, both of type 2 or neither, clash exactly when a
  -- leaf is shared
  pub clash_shared : x.timeslot ≡ y.timeslot → x.direction ≡ y.direction
      → (OneIsTwo → ⊥) → (clash x y ≡ true) ↔ Shared
  clash_shared s d t = (
    λ e.
        ⊎_elim (λ h. absurd (h d)) (⊎_elim (λ h. absurd (t h)) (λ h. h))
        (clash_grounds.0 e).1,
    λ h. clash_grounds.1 (s, inr (inr h)),
  )

-- ---- 17, "clash inside this seat's own cell", whose bookings are l: one of them clashes with x
abbrev Some : (Booking → Bool) → List Booking → Type 0
Some c l = (i : ℕ) × ((i < length l) × (c (get_or l i blank) ≡ true))

some : (c : Booking → Bool) (l : List Booking) → not (every (λ y. not (c y)) l) ≡ true → Some c l
unfolding every
some c [] e = true_false (sym e)
some c (y ∷ l) e =
    ⊎_elim (λ h. (0, (omega arith, h)))
    (λ (h : c y ≡ false).
    let s = some c l (simp h at e) in (suc s.0, (omega (arith, s.1.0), s.1.1)))
    (by_cases (c y))

pub clashes_with_one : (l : List Booking) (x : Booking)
    → (clashes_with l x ≡ true) ↔ Some (clash x) l
unfolding clashes_with
clashes_with_one l x =
    let p : Booking → Bool = λ y. not (clash x y) in (
      some (clash x) l,
      λ s.
          ⊎_elim
          (λ all. true_false (sym (every_at p l s.0 blank s.1.0 all) ∙ ap not s.1.1))
          (λ f. ap not f) (by_cases (every p l)),
    )

-- A walk over a seat's bookings that keeps what those passed say: one booking more, and whether it clashes with one of them. Cited by row_ok's proof.
-- Assumes nothing.
use mathlib.Core.Path.{◌≡◌, refl, sym, ap, ◌∙◌}
use mathlib.Core.Bool.{Bool, true, false, not, ◌&&◌, not-not}
use mathlib.Core.List.{List, [], ◌∷◌, ◌++◌, append-nil}
use Prim.Native.Nat.{ℕ, ◌+◌, ◌≤◌, ◌<◌}
use native.Mathlib.Numerals.{add-one}
use native.Mathlib.Omega.{arith}
use lib.Dec.{eqb}
use lib.ListN.{length, take, set, get_or, length-take}
use lib.Seq.{take-suc, get_or-take}
use borrow.Author.Tests.{eqb-true}
use Rattle.std.specs.List.{list_all, zip}
use Rattle.laws.specs.Lists.{every, pairs, matches}
use Rattle.laws.proofs.Bools.{and_true, both}
use Rattle.laws.proofs.Lists.{every_at, every_front, every_weaker, every_alike}
use Rattle.laws.proofs.Some.{some_every}
use Rattle.laws.proofs.Matches.{pairs_behind}
use Rattle.laws.proofs.Rows.{count_le}
use Rattle.bookings.specs.declared.Booking.{Booking}
use Rattle.bookings.specs.Bookings.{form_of, clash}
use Rattle.bookings.proofs.Formed.{Formed, formed}
use Rattle.bookings.proofs.Clash.{clash_turn}
use Rattle.slots.specs.declared.Slot.{Slot}
use Rattle.slots.specs.Slots.{is_in, count_in, slot_of, summary_of}
use Rattle.slots.specs.Inside.{joined_with, hits_with}
use Rattle.slots.proofs.OneMore.{joined_there, joined_elsewhere}
use Rattle.slots.proofs.ByMasks.{good_code, no_clash, hits_clash}
use Rattle.slots.proofs.Summary.{summary_at, summary_set}
use Rattle.seats.specs.Conditions.{not_permitted, off_beacon}
use Rattle.seats.specs.Seats.{stands}

abbrev pub in_form : Booking → Bool
in_form x = eqb (form_of x) 0

count_few : (t : ℕ) (l : List Booking) → (slot_of t l).count ≤ length l
unfolding slot_of count_in
count_few t l = count_le (is_in t) l

while_free : (a b c : Bool) → (a ≡ true → b ≡ c) → (a && b) ≡ (a && c)
while_free true b c h = h refl
while_free false b c h = refl

module _ (l : List Booking) (x : Booking) (fx : Formed x) where
  -- what those passed say, with x among them
  walked : set (summary_of l) x.timeslot (joined_with (slot_of x.timeslot l) x) ≡ summary_of (l ++ x ∷ [])
  walked =
      let there = joined_there x.timeslot l x [] in
      summary_set l (l ++ x ∷ []) x.timeslot (joined_with (slot_of x.timeslot l) x) fx.timeslot_high
      (ap (λ (m : List Booking). joined_with (slot_of x.timeslot m) x) (sym (append-nil l)) ∙ sym (there (λ i. x.timeslot)))
      (λ u n. ap (slot_of u) (sym (append-nil l)) ∙ sym (joined_elsewhere u l x [] (λ e. n (sym e))))

  -- where no two of those clash, x clashes with one of them exactly where it hits what they say of its timeslot
  module _ (good : every in_form l ≡ true) where
    clear_of : pairs no_clash l ≡ true → not (hits_with (slot_of x.timeslot l) x) ≡ every (λ y. no_clash y x) l
    clear_of free =
        ap not (hits_clash x l fx.code_good (every_weaker in_form good_code (λ y e. ap not (formed y (eqb-true (form_of y) 0 e)).code_good) l good) free)
        ∙ ap not (some_every (clash x) l) ∙ not-not (every (λ y. not (clash x y)) l)
        ∙ every_alike (λ y. not (clash x y)) (λ y. no_clash y x) (λ y. ap not (clash_turn x y)) l

    clear : (ok hit : Bool) → ok ≡ pairs no_clash l → hit ≡ hits_with (slot_of x.timeslot l) x → (ok && not hit) ≡ pairs no_clash (l ++ x ∷ [])
    clear ok hit eo eh =
        ap (λ (h : Bool). ok && not h) eh
        ∙ ap (λ (o : Bool). o && not (hits_with (slot_of x.timeslot l) x)) eo
        ∙ while_free (pairs no_clash l) _ _ clear_of
        ∙ sym (pairs_behind no_clash l x)

-- two lists as long as each other, pair by pair
pub two_by_two : {A : Type 0} (r : A → A → Bool) (l m : List A) → length l ≡ length m → list_all (λ p. r p.0 p.1) (zip l m) ≡ matches r l m
unfolding matches
two_by_two r [] [] e = refl
two_by_two r [] (y ∷ m) e = absurd (omega arith)
two_by_two r (x ∷ l) [] e = absurd (omega arith)
two_by_two r (x ∷ l) (y ∷ m) e = ap (λ (b : Bool). r x y && b) (two_by_two r l m (omega arith))

pub one_more : (row : List Booking) (i : ℕ) (d : Booking) → i < length row → take (i + 1) row ≡ take i row ++ get_or row i d ∷ []
one_more row i d lt = ap (λ (j : ℕ). take j row) (add-one i) ∙ take-suc row i d lt

-- ---- the walk over a row whose first i may stand, and the next
behind : (p : Booking → Bool) (l : List Booking) (x : Booking) → every p l ≡ true → p x ≡ true → every p (l ++ x ∷ []) ≡ true
unfolding every
behind p [] x e h = both (p x) true h refl
behind p (y ∷ l) x e h =
    let q = and_true (p y) (every p l) e in
    both (p y) (every p (l ++ x ∷ [])) q.0 (behind p l x q.1 h)

module _ (case k long short : ℕ) (row : List Booking) (i : ℕ) (d : Booking) (lt : i < length row) (past : every (stands case k long short) (take i row) ≡ true)
    (fit : stands case k long short (get_or row i d) ≡ true) where
  pub stood_on : every (stands case k long short) (take (i + 1) row) ≡ true
  stood_on = ap (every (stands case k long short)) (one_more row i d lt) ∙ behind (stands case k long short) (take i row) (get_or row i d) past fit

  pub forms_on : every in_form (take (i + 1) row) ≡ true
  unfolding stands
  forms_on =
      every_weaker (stands case k long short) in_form (λ x e. (and_true (eqb (form_of x) 0) (not (not_permitted long short x) && not (off_beacon case k x)) e).0) (take (i + 1) row) stood_on

-- ---- the walk over a row, of which the first n are in form, at place i
module _ (row : List Booking) (n i : ℕ) (d : Booking) (fits : n ≤ length row) (lt : i < n) (forms : every in_form (take n row) ≡ true) where
  abbrev here : Booking
  here = get_or row i d

  pub form_here : Formed here
  form_here =
      let p : i < length (take n row) = omega (arith, length-take n row) in
      formed here (eqb-true (form_of here) 0 (ap in_form (sym (get_or-take n row i d lt)) ∙ every_at in_form (take n row) i d p forms))

  pub timeslot_here : here.timeslot < 15
  timeslot_here = omega (arith, form_here.timeslot_high)

  module _ (made : List Slot) (e : Slot) (em : made ≡ summary_of (take i row)) where
    kept_here : get_or made here.timeslot e ≡ slot_of here.timeslot (take i row)
    kept_here = ap (λ (m : List Slot). get_or m here.timeslot e) em ∙ summary_at (take i row) e here.timeslot form_here.timeslot_high

    pub count_here : n ≤ 40 → (get_or made here.timeslot e).count < 255
    count_here few =
        let c : (get_or made here.timeslot e).count ≡ (slot_of here.timeslot (take i row)).count = ap (λ (s : Slot). s.count) kept_here in
        omega (arith, c, count_few here.timeslot (take i row), length-take i row)

    pub walk_on : (more : Slot) (ok hit : Bool) → more ≡ joined_with (get_or made here.timeslot e) here → hit ≡ hits_with (get_or made here.timeslot e) here
        → ok ≡ pairs no_clash (take i row)
        → (set made here.timeslot more ≡ summary_of (take (i + 1) row)) × ((ok && not hit) ≡ pairs no_clash (take (i + 1) row))
    walk_on more ok hit ej eh eo =
        let next : take i row ++ here ∷ [] ≡ take (i + 1) row = sym (one_more row i d (omega arith)) in (
          ap (λ (m : List Slot). set m here.timeslot more) em
              ∙ ap (λ (s : Slot). set (summary_of (take i row)) here.timeslot s) (ej ∙ ap (λ (s : Slot). joined_with s here) kept_here)
              ∙ walked (take i row) here form_here ∙ ap summary_of next,
          clear (take i row) here form_here (every_front in_form row i n (omega arith) forms) ok hit eo (eh ∙ ap (λ (s : Slot). hits_with s here) kept_here) ∙ ap (pairs no_clash) next,
        )

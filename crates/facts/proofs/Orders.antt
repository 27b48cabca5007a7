-- Document 01, "If several apply to a call, the lowest is given. A number is given exactly when its
-- condition holds and no lower one of that call does": of every table, in the order of reading, and
-- then of one that ascends. Cited by proofs/Replies.antt. Assumes nothing.
use mathlib.Core.Path.{◌≡◌, refl, sym, ap, ◌∙◌}
use mathlib.Core.Bool.{Bool, true, false, ◌&&◌, ◌||◌}
use mathlib.Core.List.{[], ◌∷◌, ◌++◌}
use mathlib.Core.Logic.{◌↔◌, ◌⊎◌, inl, inr}
use Prim.Native.Nat.{ℕ, ◌<◌, ◌≤◌}
use native.Mathlib.Omega.{arith}
use lib.Dec.{eqb, leb, lit≤}
use borrow.Author.Tests.{leb-true, eqb-true, eqb-false, eq-eqb, ne_eqb}
use Rattle.laws.specs.Lists.{chain, every, member}
use Rattle.laws.proofs.Bools.{true_false, and_true}
use Rattle.laws.proofs.Cases.{by_cases, below_or_not}
use Rattle.refusals.specs.Refusals.{Refusals, first_of}
use Rattle.facts.specs.Orders.{numbers_of, ascending, applies, none_holds}
use Rattle.facts.specs.Orders.{FirstToHold, LowestToHold}

-- ---- in the order of reading, whatever the numbers are

-- a row that does not hold, read before others
later : (n r : ℕ) (t : Refusals) → FirstToHold n t → FirstToHold n ((r, false) ∷ t)
unfolding none_holds every
later n r t f =
    record {
      before = (r, false) ∷ f.before;
      behind = f.behind;
      table = ap (λ (u : Refusals). (r, false) ∷ u) f.table;
      none_before = f.none_before;
    }

first_to_hold : (t : Refusals) (n : ℕ) → 1 ≤ n → first_of t ≡ n → FirstToHold n t
unfolding first_of none_holds every
first_to_hold [] n h e = absurd (omega arith)
first_to_hold ((r, true) ∷ t) n h e =
    let same = ap (λ (m : ℕ). (m, true) ∷ t) e in
    record { before = []; behind = t; table = same; none_before = refl }
first_to_hold ((r, false) ∷ t) n h e = later n r t (first_to_hold t n h e)

passed_over : (before behind : Refusals) (n : ℕ) → none_holds before ≡ true
    → first_of (before ++ (n, true) ∷ behind) ≡ n
unfolding first_of none_holds every
passed_over [] behind n e = refl
passed_over ((r, true) ∷ before) behind n e = true_false (sym e)
passed_over ((r, false) ∷ before) behind n e = passed_over before behind n e

-- the number that a table gives: that of the first row that holds, as the table is read
pub first_given : (t : Refusals) (n : ℕ) → 1 ≤ n → (first_of t ≡ n) ↔ FirstToHold n t
first_given t n h = (
  first_to_hold t n h,
  λ f. ap first_of f.table ∙ passed_over f.before f.behind n f.none_before,
)

-- ---- of a table that ascends

-- its numbers go upwards from k
abbrev From : ℕ → Refusals → Type 0
From k t = chain leb (k ∷ numbers_of t) ≡ true

-- so does the rest, from the first of them
row_from : (k r : ℕ) (b : Bool) (t : Refusals) → From k ((r, b) ∷ t) → (k ≤ r) × From r t
unfolding chain numbers_of
row_from k r b t a = let up = and_true (leb k r) _ a in (leb-true k r up.0, up.1)

-- none below k applies
none_below : (k : ℕ) (t : Refusals) → From k t → (m : ℕ) → m < k → applies m t ≡ false
unfolding applies
none_below k [] a m h = refl
none_below k ((r, true) ∷ t) a m h =
    let up = row_from k r true t a in
    rw (ne_eqb m r (λ e. omega (arith, up.0))) (none_below r t up.1 m (omega (arith, up.0)))
none_below k ((r, false) ∷ t) a m h =
    let up = row_from k r false t a in
    none_below r t up.1 m (omega (arith, up.0))

-- a row that does not hold says nothing of what applies
rest_lowest : (n r : ℕ) (t : Refusals) → LowestToHold n t ↔ LowestToHold n ((r, false) ∷ t)
unfolding applies
rest_lowest n r t = (
  λ f. record { holds = f.holds; none_lower = f.none_lower },
  λ f. record { holds = f.holds; none_lower = f.none_lower },
)

lowest_to_hold : (k : ℕ) (t : Refusals) → From k t → (n : ℕ) → 1 ≤ n → first_of t ≡ n
    → LowestToHold n t
unfolding applies first_of
lowest_to_hold k [] a n h e = absurd (omega arith)
lowest_to_hold k ((r, true) ∷ t) a n h e =
    let up = (row_from k r true t a).1 in
    record {
      holds = rw (eq-eqb n r (sym e)) refl;
      none_lower = λ m l. rw (ne_eqb m r (λ d. omega arith)) (none_below r t up m (omega arith));
    }
lowest_to_hold k ((r, false) ∷ t) a n h e =
    (rest_lowest n r t).0 (lowest_to_hold r t (row_from k r false t a).1 n h e)

lowest_first : (k : ℕ) (t : Refusals) → From k t → (n : ℕ) → LowestToHold n t → first_of t ≡ n
unfolding applies first_of
lowest_first k [] a n f = true_false (sym f.holds)
lowest_first k ((r, true) ∷ t) a n f = by (by_cases (eqb n r)) (below_or_not n r)
  where
    by : ((eqb n r ≡ true) ⊎ (eqb n r ≡ false)) → ((n < r) ⊎ (r ≤ n)) → r ≡ n
    by (inl e) side = sym (eqb-true n r e)
    by (inr e) (inl l) =
        let none = none_below r t (row_from k r true t a).1 n l in
        true_false (sym (rw e at f.holds) ∙ none)
    by (inr e) (inr l) =
        let d = eqb-false n r e in
        true_false (rw (eq-eqb r r refl) at (f.none_lower r (omega arith)))
lowest_first k ((r, false) ∷ t) a n f =
    lowest_first r t (row_from k r false t a).1 n ((rest_lowest n r t).1 f)

-- the number that it gives: the lowest that applies
pub lowest_given : (t : Refusals) → ascending (numbers_of t) ≡ true → (n : ℕ) → 1 ≤ n
    → (first_of t ≡ n) ↔ LowestToHold n t
unfolding ascending
lowest_given t a n h = (lowest_to_hold 1 t a n h, lowest_first 1 t a n)

-- 0 is nobody's number
pub above_zero : (t : Refusals) → ascending (numbers_of t) ≡ true → (n : ℕ) → LowestToHold n t
    → 1 ≤ n
unfolding ascending
above_zero t a n f = by (below_or_not n 1)
  where
    by : ((n < 1) ⊎ (1 ≤ n)) → 1 ≤ n
    by (inl l) = true_false (sym f.holds ∙ none_below 1 t a n l)
    by (inr l) = l

none_applies : (k : ℕ) (t : Refusals) → 1 ≤ k → From k t
    → (first_of t ≡ 0) ↔ ((m : ℕ) → applies m t ≡ false)
unfolding applies first_of
none_applies k [] h a = (λ z m. refl, λ n. refl)
none_applies k ((r, true) ∷ t) h a = (
  λ z. absurd (omega (arith, (row_from k r true t a).0)),
  λ n. true_false (rw (eq-eqb r r refl) at (n r)),
)
none_applies k ((r, false) ∷ t) h a =
    let up = row_from k r false t a in
    none_applies r t (omega (arith, up.0)) up.1

-- it gives none, which is 0, exactly when none applies
pub none_given : (t : Refusals) → ascending (numbers_of t) ≡ true
    → (first_of t ≡ 0) ↔ ((m : ℕ) → applies m t ≡ false)
unfolding ascending
none_given t a = none_applies 1 t (lit≤ tt) a

-- what applies is one of the table's numbers
listed : (holds same later found : Bool) → (later ≡ true → found ≡ true)
    → (holds && same || later) ≡ true → (same || found) ≡ true
listed holds true later found f e = refl
listed true false later found f e = f e
listed false false later found f e = f e

pub applies_listed : (n : ℕ) (t : Refusals) → applies n t ≡ true → member n (numbers_of t) ≡ true
unfolding applies member numbers_of
applies_listed n [] e = true_false (sym e)
applies_listed n ((r, b) ∷ t) e = listed b (eqb n r) (applies n t) _ (applies_listed n t) e

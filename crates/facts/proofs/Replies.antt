-- The same of the call that reads a table: refused n, or answered, exactly when. Cited by
-- proofs/Calls.antt, which says it of each call. Assumes nothing.
use mathlib.Core.Path.{◌≡◌, refl, sym, ap, ◌∙◌}
use mathlib.Core.Bool.{Bool, true, false, cond}
use mathlib.Core.List.{List}
use mathlib.Core.Logic.{◌↔◌}
use Prim.Native.Nat.{ℕ, ◌≤◌}
use native.Mathlib.Omega.{arith}
use lib.Dec.{eqb}
use borrow.Author.Tests.{eqb-false}
use Rattle.laws.specs.Lists.{member}
use Rattle.refusals.specs.Refusals.{Answer, refused, answered, Refusals, first_of, answer}
use Rattle.refusals.proofs.First.{answer_refused, answer_answered}
use Rattle.refusals.proofs.First.{answer_given}
use Rattle.facts.specs.Orders.{numbers_of, ascending, applies}
use Rattle.facts.specs.Orders.{FirstToHold, LowestToHold, Exactly}
use Rattle.facts.proofs.Orders.{first_given, lowest_given, none_given, above_zero}
use Rattle.facts.proofs.Orders.{applies_listed}

-- a call that is refused n found n in its table
refused_number : {A : Type 0} (m n : ℕ) (value : A) → answer m value ≡ refused n → (m ≡ n) × (1 ≤ n)
unfolding answer
refused_number m n value = by (eqb m 0) refl
  where
    by : (b : Bool) → eqb m 0 ≡ b → cond b (answered value) (refused m) ≡ refused n
        → (m ≡ n) × (1 ≤ n)
    by true t e = let z : ◌≡◌ {A = ℕ} 0 1 = cc in absurd (omega arith)
    by false t e =
        let g : m ≡ n = cc in
        let d = eqb-false m 0 t in
        (g, omega arith)

module _ {A : Type 0} (t : Refusals) (value : A) where
  -- in the order of reading, whatever the numbers are
  pub first_refused : (n : ℕ) → (answer (first_of t) value ≡ refused n) ↔ ((1 ≤ n) × FirstToHold n t)
  first_refused n = (
    λ e. let g = refused_number (first_of t) n value e in (g.1, (first_given t n g.1).0 g.0),
    λ f.
        let g = (first_given t n f.0).1 f.1 in
        rw g (answer_refused n value (λ z. omega (arith, f.0))),
  )

  module _ (up : ascending (numbers_of t) ≡ true) where
    -- "exactly when its condition holds and no lower one of that call does"
    pub lowest_refused : (n : ℕ) → (answer (first_of t) value ≡ refused n) ↔ LowestToHold n t
    lowest_refused n = (
      λ e.
          let g = refused_number (first_of t) n value e in
          (lowest_given t up n g.1).0 g.0,
      λ f.
          let h = above_zero t up n f in
          let g = (lowest_given t up n h).1 f in
          rw g (answer_refused n value (λ z. omega (arith, h))),
    )

    -- so a call is answered exactly when no number of that call applies
    pub none_answered : ((given : A) × (answer (first_of t) value ≡ answered given))
        ↔ ((m : ℕ) → applies m t ≡ false)
    none_answered = (
      λ g. (none_given t up).0 (answer_given (first_of t) value g.0 g.1).0,
      λ n. (value, answer_answered (first_of t) value ((none_given t up).1 n)),
    )

pub exactly : {A : Type 0} (numbers : List ℕ) (t : Refusals) (value : A) → numbers_of t ≡ numbers
    → ascending numbers ≡ true → Exactly numbers t (answer (first_of t) value)
exactly numbers t value e a =
    let up : ascending (numbers_of t) ≡ true = ap ascending e ∙ a in
    record {
      its_numbers = e;
      in_order = a;
      lowest = lowest_refused t value up;
      none = none_answered t value up;
    }

-- and the call gives no other numbers
pub no_others : {A : Type 0} (numbers : List ℕ) (t : Refusals) (reply : Answer A)
    → Exactly numbers t reply → (n : ℕ) → reply ≡ refused n → member n numbers ≡ true
no_others numbers t reply x n e =
    ap (λ (l : List ℕ). member n l) (sym x.its_numbers)
    ∙ applies_listed n t ((x.lowest n).0 e).holds

-- Two good codes share a leaf exactly where neither's leaves end before the other's begin. Cited by the crates slots and facts.
-- Assumes nothing.
use mathlib.Core.Path.{◌≡◌, refl, sym}
use mathlib.Core.Logic.{⊎_elim}
use mathlib.Core.Bool.{Bool, true, false, ◌&&◌}
use mathlib.Core.List.{List, [], ◌∷◌}
use Prim.Native.Nat.{ℕ, ◌+◌, ◌≤◌, ◌<◌}
use native.Mathlib.Omega.{arith}
use lib.Dec.{leb, ltb}
use borrow.Author.Tests.{ltb-true, lt-ltb, leb-true, le-leb}
use Rattle.laws.specs.Lists.{some}
use Rattle.laws.proofs.Bools.{true_false, and_true, both}
use Rattle.laws.proofs.Cases.{below_or_not, either}
use Rattle.conditions.specs.Conditions.{bad_code}
use Rattle.leaves.specs.Leaves.{leaves_of, first_leaf, covers, the_leaves}
use Rattle.leaves.proofs.Masks.{covered}
use Rattle.leaves.proofs.Patterns.{some_leaf}

true_together : (a b : Bool) → (a ≡ true → b ≡ true) → (b ≡ true → a ≡ true) → a ≡ b
true_together true true f g = refl
true_together false false f g = refl
true_together true false f g = sym (f refl)
true_together false true f g = g refl

-- a leaf at which a test holds, where it holds of one
some_found : (P : Type 0) (f : ℕ → Bool) (l : List ℕ) → ((i : ℕ) → f i ≡ true → P) → some f l ≡ true → P
unfolding some
some_found P f [] h e = true_false (sym e)
some_found P f (i ∷ l) h e = ⊎_elim (h i) (some_found P f l h) (either (f i) (some f l) e)

-- a leaf that a code covers is one of those from its first on, and the other way round
pub covers_run : (Q k i : ℕ) → covers Q k i ≡ true → (first_leaf Q k ≤ i) × (i < first_leaf Q k + leaves_of Q)
unfolding covers
covers_run Q k i e =
    let p = and_true (leb (first_leaf Q k) i) (ltb i (first_leaf Q k + leaves_of Q)) e in
    (leb-true _ _ p.0, ltb-true _ _ p.1)

pub run_covers : (Q k i : ℕ) → first_leaf Q k ≤ i → i < first_leaf Q k + leaves_of Q → covers Q k i ≡ true
unfolding covers
run_covers Q k i a b = both (leb (first_leaf Q k) i) (ltb i (first_leaf Q k + leaves_of Q)) (le-leb _ _ a) (lt-ltb _ _ b)

module _ (Q k R j : ℕ) (gq : bad_code Q k ≡ false) (gr : bad_code R j ≡ false) where
  abbrev meet : Bool
  meet = ltb (first_leaf Q k) (first_leaf R j + leaves_of R) && ltb (first_leaf R j) (first_leaf Q k + leaves_of Q)

  abbrev both_cover : ℕ → Bool
  both_cover i = covers Q k i && covers R j i

  covered_both : (i : ℕ) → both_cover i ≡ true → meet ≡ true
  covered_both i e =
      let p = and_true (covers Q k i) (covers R j i) e in
      let a = covers_run Q k i p.0 in
      let b = covers_run R j i p.1 in
      let c : first_leaf Q k < first_leaf R j + leaves_of R = omega (arith, a.0, b.1) in
      let d : first_leaf R j < first_leaf Q k + leaves_of Q = omega (arith, b.0, a.1) in
      both (ltb (first_leaf Q k) (first_leaf R j + leaves_of R)) (ltb (first_leaf R j) (first_leaf Q k + leaves_of Q)) (lt-ltb _ _ c) (lt-ltb _ _ d)

  -- the later of the two first leaves is shared
  shared_at : (i : ℕ) → first_leaf Q k ≤ i → i < first_leaf Q k + leaves_of Q → first_leaf R j ≤ i → i < first_leaf R j + leaves_of R → some both_cover the_leaves ≡ true
  shared_at i a b c d =
      some_leaf both_cover i (omega (arith, (covered Q k gq).ends, b)) (both (covers Q k i) (covers R j i) (run_covers Q k i a b) (run_covers R j i c d))

  later_first : meet ≡ true → some both_cover the_leaves ≡ true
  later_first e =
      let p = and_true (ltb (first_leaf Q k) (first_leaf R j + leaves_of R)) (ltb (first_leaf R j) (first_leaf Q k + leaves_of Q)) e in
      let a : first_leaf Q k < first_leaf R j + leaves_of R = ltb-true _ _ p.0 in
      let b : first_leaf R j < first_leaf Q k + leaves_of Q = ltb-true _ _ p.1 in
      ⊎_elim (λ h. shared_at (first_leaf R j) (omega arith) b (omega arith) (omega (arith, (covered R j gr).one_least)))
      (λ h. shared_at (first_leaf Q k) (omega arith) (omega (arith, (covered Q k gq).one_least)) h a) (below_or_not (first_leaf Q k) (first_leaf R j))

  pub shared_leaf : some (λ i. covers Q k i && covers R j i) the_leaves ≡ (ltb (first_leaf Q k) (first_leaf R j + leaves_of R) && ltb (first_leaf R j) (first_leaf Q k + leaves_of Q))
  shared_leaf = true_together (some both_cover the_leaves) meet (some_found (meet ≡ true) both_cover the_leaves covered_both) later_first

-- A list of no length, and a list taken in parts: what is taken is no longer than the list, nor than was asked for, and two parts, one behind the other, are one. Cited by proofs/Runs.antt, by the crates blocks and bench and by the theorems on blocks.
-- Assumes nothing.
use mathlib.Core.Path.{◌≡◌, refl, sym, ap, ◌∙◌}
use mathlib.Core.List.{List, [], ◌∷◌, ◌++◌}
use Prim.Native.Nat.{ℕ, zero, suc, ◌+◌, ◌≤◌}
use native.Mathlib.Nat.{zero-add, suc-add}
use native.Mathlib.Omega.{arith}
use lib.ListN.{length, take, drop}
use lib.Seq.{take-nil}

module _ {A : Type 0} where
  pub length_none : (l : List A) → length l ≡ 0 → l ≡ []
  length_none [] h = refl
  length_none (x ∷ l) h = absurd (omega arith)

  pub take_within : (k : ℕ) (l : List A) → length (take k l) ≤ length l
  take_within zero l = omega arith
  take_within (suc k) [] = omega arith
  take_within (suc k) (x ∷ l) = let h = take_within k l in omega arith

  pub take_few : (k : ℕ) (l : List A) → length (take k l) ≤ k
  take_few zero l = omega arith
  take_few (suc k) [] = omega arith
  take_few (suc k) (x ∷ l) = let h = take_few k l in omega arith

  -- as many as were taken are the same ones
  pub take_taken : (k : ℕ) (l : List A) → take k l ≡ take (length (take k l)) l
  take_taken zero l = refl
  take_taken (suc k) [] = refl
  take_taken (suc k) (x ∷ l) = ap (λ (r : List A). x ∷ r) (take_taken k l)

  -- k at the most, and behind them t more
  pub take_parts : (k t : ℕ) (l : List A) → take k l ++ take t (drop (length (take k l)) l) ≡ take (k + t) l
  take_parts zero t l = ap (λ (n : ℕ). take n l) (sym (zero-add t))
  take_parts (suc k) t [] = take-nil t ∙ sym (take-nil (suc k + t))
  take_parts (suc k) t (x ∷ l) = ap (λ (r : List A). x ∷ r) (take_parts k t l) ∙ ap (λ (n : ℕ). take n (x ∷ l)) (sym (suc-add k t))

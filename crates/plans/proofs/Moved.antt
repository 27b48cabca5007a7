-- A row of 40 whose places from p on are moved one up or one down, over plain values. Cited by the proofs of put_in and take_out.
-- Assumes nothing.
use mathlib.Core.Path.{◌≡◌, sym, ap, ◌∙◌}
use mathlib.Core.List.{List, [], ◌∷◌, ◌++◌, append-nil, append_assoc}
use Prim.Native.Nat.{ℕ, suc, ◌+◌, ◌-◌, ◌<◌}
use native.Mathlib.Numerals.{add-one}
use native.Mathlib.Omega.{arith}
use lib.ListN.{length, take, drop, set, get_or, drop_of_length-le, length-append, length-drop}
use lib.Seq.{paste, take-suc, drop-cons, set_at, append_snoc, take_all, take-append-add, length-take-le}
use Rattle.std.proofs.lemmas.List.{take-append-le, drop-append-le}
use Rattle.laws.specs.Lists.{insert_at, remove_at}

module _ {A : Type 0} (row : List A) (p : ℕ) (x d : A) (wide : length row ≡ 40) (low : p < 40) where
  front : length (take p row) ≡ p
  front = length-take-le p row (omega arith)

  -- one up, and x goes in at p: the last one falls off
  pub moved_up : set (paste row (p + 1) (drop p row) (39 - p)) p x ≡ take 40 (insert_at p x row)
  moved_up =
      let behind = take (39 - p) (drop p row) in
      let none : drop (p + 1 + (39 - p)) row ≡ [] = drop_of_length-le row {i = p + 1 + (39 - p)} (omega arith) in
      let next : take (p + 1) row ≡ take p row ++ get_or row p d ∷ [] = ap (λ (j : ℕ). take j row) (add-one p) ∙ take-suc row p d (omega arith) in
      let many : 40 ≡ length (take p row) + suc (39 - p) = omega (arith, front) in
      ap (λ (r : List A). set (take (p + 1) row ++ behind ++ r) p x) none
      ∙ ap (λ (r : List A). set r p x) (append-nil (take (p + 1) row ++ behind) ∙ ap (λ (r : List A). r ++ behind) next ∙ append_snoc (take p row) (get_or row p d) behind)
      ∙ set_at (take p row) (get_or row p d) behind x p front
      ∙ sym (ap (λ (n : ℕ). take n (take p row ++ x ∷ drop p row)) many ∙ take-append-add (take p row) (x ∷ drop p row) (suc (39 - p)))

  -- one down: the one at p goes, and x comes in at the end
  pub moved_down : set (paste row p (drop (p + 1) row) (length row - (p + 1))) 39 x ≡ remove_at p (row ++ x ∷ [])
  moved_down =
      let behind = drop (p + 1) row in
      let all : take (length row - (p + 1)) behind ≡ behind = take_all (length row - (p + 1)) behind (omega (arith, length-drop (p + 1) row)) in
      let place : p + (length row - (p + 1)) ≡ 39 = omega arith in
      let last : drop (p + (length row - (p + 1))) row ≡ get_or row 39 d ∷ [] = ap (λ (j : ℕ). drop j row) place ∙ drop-cons row 39 d (omega arith)
      ∙ ap (λ (r : List A). get_or row 39 d ∷ r) (drop_of_length-le row {i = suc 39} (omega arith)) in
      let many : length (take p row ++ behind) ≡ 39 = omega (arith, length-append (take p row) behind, front, length-drop (p + 1) row) in
      ap (λ (r : List A). set (take p row ++ r ++ drop (p + (length row - (p + 1))) row) 39 x) all
      ∙ ap (λ (r : List A). set (take p row ++ behind ++ r) 39 x) last
      ∙ set_at (take p row ++ behind) (get_or row 39 d) [] x 39 many
      ∙ append_assoc (take p row) behind (x ∷ [])
      ∙ sym (rw (take-append-le p row (x ∷ []) (omega arith), drop-append-le (p + 1) row (x ∷ []) (omega arith)))

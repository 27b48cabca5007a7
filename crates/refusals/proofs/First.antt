-- Which refusal of a table is the first, and what that makes of the answer and of what was lent. Cited by every call's proof.
-- Assumes nothing.
use mathlib.Core.Path.{◌≡◌, refl, sym, ap, ◌∙◌}
use mathlib.Core.Bool.{Bool, true, false, ◌&&◌}
use mathlib.Core.List.{[], ◌∷◌, ◌++◌}
use mathlib.Core.Logic.{⊎_elim}
use Prim.Native.Nat.{ℕ, suc}
use native.Mathlib.Omega.{arith}
use lib.Dec.{T, ltb, ltb→lt}
use borrow.Author.Tests.{eq-eqb, ne_eqb}
use Rattle.laws.proofs.Bools.{true_false, T-and-left, T-and-right}
use Rattle.laws.proofs.Cases.{equal_or_not}
use Rattle.refusals.specs.Refusals.{Answer, refused, answered, ◌leaving◌, Refusals, first_of, answer, after}
use Rattle.refusals.specs.Inside.{or_refused, row_by_row}

-- the condition holds: its number is given
pub first_holds : (n : ℕ) (b : Bool) (rest : Refusals) → b ≡ true → first_of ((n, b) ∷ rest) ≡ n
unfolding first_of
first_holds n true rest e = refl
first_holds n false rest e = true_false (sym e)

-- it does not: the rest decides
pub first_passes : (n : ℕ) (b : Bool) (rest : Refusals) → b ≡ false → first_of ((n, b) ∷ rest) ≡ first_of rest
unfolding first_of
first_passes n false rest e = refl
first_passes n true rest e = true_false e

-- a table of which no refusal was given: its first condition does not hold, and of the rest none was given
pub first_none : (n : ℕ) (b : Bool) (rest : Refusals) → first_of ((suc n, b) ∷ rest) ≡ 0 → (b ≡ false) × (first_of rest ≡ 0)
unfolding first_of
first_none n false rest e = (refl, e)
first_none n true rest e = absurd (omega arith)

-- no row of a table has the number 0
abbrev pub numbered : Refusals → Bool
numbered [] = true
numbered (row ∷ rest) = ltb 0 row.0 && numbered rest

not_zero : (n : ℕ) (rest : Refusals) → T (ltb 0 n && numbered rest) → n ≡ 0 → ⊥
not_zero n rest k z = let l = ltb→lt 0 n (T-and-left (ltb 0 n) (numbered rest) k) in omega arith

-- a refusal that was given stays
given_stays : (n m : ℕ) (b : Bool) → (n ≡ 0 → ⊥) → or_refused n m b ≡ n
unfolding or_refused
given_stays n m b h = simp (ne_eqb n 0 h)

rows_stay : (n : ℕ) (t : Refusals) → (n ≡ 0 → ⊥) → row_by_row n t ≡ n
unfolding row_by_row
rows_stay n [] h = refl
rows_stay n (row ∷ rest) h = ap (λ (k : ℕ). row_by_row k rest) (given_stays n row.0 row.1 h) ∙ rows_stay n rest h

-- a table read row by row gives its first refusal
pub first_row_by_row : (t : Refusals) → T (numbered t) → row_by_row 0 t ≡ first_of t
unfolding row_by_row or_refused first_of
first_row_by_row [] k = refl
first_row_by_row ((n, true) ∷ rest) k = rows_stay n rest (not_zero n rest k)
first_row_by_row ((n, false) ∷ rest) k = first_row_by_row rest (T-and-right (ltb 0 n) (numbered rest) k)

-- a longer table: a refusal of the first part stays
pub append_refused : (t u : Refusals) → (first_of t ≡ 0 → ⊥) → first_of (t ++ u) ≡ first_of t
unfolding first_of
append_refused [] u h = absurd (h refl)
append_refused ((n, true) ∷ t) u h = refl
append_refused ((n, false) ∷ t) u h = append_refused t u h

-- a table whose first part was read, and then the rest row by row
pub append_rows : (t u : Refusals) → T (numbered t) → T (numbered u) → row_by_row (first_of t) u ≡ first_of (t ++ u)
unfolding first_of
append_rows [] u k l = first_row_by_row u l
append_rows ((n, true) ∷ t) u k l = rows_stay n u (not_zero n t k)
append_rows ((n, false) ∷ t) u k l = append_rows t u (T-and-right (ltb 0 n) (numbered t) k) l

-- A table read row by row: n was given so far, and with the rows that are left it comes to the table's first refusal.
pub record Reading (n : ℕ) (left : Refusals) (first : ℕ) : Type 0 where
  pub comes : row_by_row n left ≡ first

-- it begins at the table, or behind a first part of it that another function has read
pub reads : (t : Refusals) → T (numbered t) → Reading 0 t (first_of t)
reads t k = record { comes = first_row_by_row t k }

pub reads_behind : {n : ℕ} (t u : Refusals) → T (numbered t) → T (numbered u) → n ≡ first_of t → Reading n u (first_of (t ++ u))
reads_behind t u k l e = record { comes = ap (λ (m : ℕ). row_by_row m u) e ∙ append_rows t u k l }

-- a row: what its test gave, and what `or_refused` made of it
pub reads_row : {n m r first : ℕ} {b test : Bool} {left : Refusals} → Reading n ((m, b) ∷ left) first → test ≡ b → r ≡ or_refused n m test → Reading r left first
unfolding row_by_row
reads_row {n} {m} {left = left} reading e g =
    record { comes = ap (λ (k : ℕ). row_by_row k left) (g ∙ ap (λ (t : Bool). or_refused n m t) e) ∙ reading.comes }

-- and ends behind the last row
pub reads_all : {n first : ℕ} → Reading n [] first → n ≡ first
unfolding row_by_row
reads_all reading = reading.comes

-- no refusal of the first part was given: the rest decides
pub append_passes : (t u : Refusals) → T (numbered t) → first_of t ≡ 0 → first_of (t ++ u) ≡ first_of u
unfolding first_of
append_passes [] u k z = refl
append_passes ((n, true) ∷ t) u k z = absurd (not_zero n t k z)
append_passes ((n, false) ∷ t) u k z = append_passes t u (T-and-right (ltb 0 n) (numbered t) k) z

-- no refusal of a longer table was given: none of its first part
pub append_front : (t u : Refusals) → T (numbered t) → first_of (t ++ u) ≡ 0 → first_of t ≡ 0
unfolding first_of
append_front [] u k z = refl
append_front ((n, true) ∷ t) u k z = absurd (not_zero n t k z)
append_front ((n, false) ∷ t) u k z = append_front t u (T-and-right (ltb 0 n) (numbered t) k) z

-- a table with one row behind it
pub append_row : (t : Refusals) (m : ℕ) (b : Bool) → T (numbered t) → or_refused (first_of t) m b ≡ first_of (t ++ ((m, b) ∷ []))
unfolding first_of or_refused
append_row [] m b k = refl
append_row ((n, true) ∷ rest) m b k = given_stays n m b (not_zero n rest k)
append_row ((n, false) ∷ rest) m b k = append_row rest m b (T-and-right (ltb 0 n) (numbered rest) k)

-- no refusal of such a table was given: none of the table, nor the row's
pub append_none : (t : Refusals) (m : ℕ) (b : Bool) → T (numbered t) → first_of (t ++ ((suc m, b) ∷ [])) ≡ 0 → (first_of t ≡ 0) × (b ≡ false)
unfolding first_of
append_none [] m b k e = (refl, (first_none m b [] e).0)
append_none ((n, true) ∷ rest) m b k e = absurd (not_zero n rest k e)
append_none ((n, false) ∷ rest) m b k e = append_none rest m b (T-and-right (ltb 0 n) (numbered rest) k) e

-- an answer, and what was lent, by the first refusal's number
pub answer_refused : {A : Type 0} (n : ℕ) (value : A) → (n ≡ 0 → ⊥) → answer n value ≡ refused n
unfolding answer
answer_refused n value h = simp (ne_eqb n 0 h)

pub answer_answered : {A : Type 0} (n : ℕ) (value : A) → n ≡ 0 → answer n value ≡ answered value
unfolding answer
answer_answered n value e = simp (eq-eqb n 0 e)

pub after_refused : {M : Type 0} (n : ℕ) (before made : M) → (n ≡ 0 → ⊥) → after n before made ≡ before
unfolding after
after_refused n before made h = simp (ne_eqb n 0 h)

pub after_answered : {M : Type 0} (n : ℕ) (before made : M) → n ≡ 0 → after n before made ≡ made
unfolding after
after_answered n before made e = simp (eq-eqb n 0 e)

-- what a call that found n in its table answers and leaves: a refusal, by its number and with what was lent unchanged
pub refused_by : {A : Type 0} (n m : ℕ) (value : A) → n ≡ m → (n ≡ 0 → ⊥) → refused n ≡ answer m value
refused_by n m value e h = ap refused e ∙ sym (answer_refused m value (λ z. h (e ∙ z)))

pub refused_leaving : {A M : Type 0} (n m : ℕ) (value : A) (before made : M) → n ≡ m → (n ≡ 0 → ⊥)
    → (refused n leaving before) ≡ (answer m value leaving after m before made)
refused_leaving n m value before made e h =
    let said = refused_by n m value e h in
    let kept = sym (after_refused m before made (λ z. h (e ∙ z))) in
    cc

-- or, where it found none, the value, and what was lent as the call makes it
pub answered_by : {A : Type 0} (n m : ℕ) (given value : A) → n ≡ m → n ≡ 0 → given ≡ value → answered given ≡ answer m value
answered_by n m given value e z v = ap answered v ∙ sym (answer_answered m value (sym e ∙ z))

pub answered_leaving : {A M : Type 0} (n m : ℕ) (given value : A) (before out made : M) → n ≡ m → n ≡ 0 → given ≡ value → out ≡ made
    → (answered given leaving out) ≡ (answer m value leaving after m before made)
answered_leaving n m given value before out made e z v l =
    let said = answered_by n m given value e z v in
    let left = l ∙ sym (after_answered m before made (sym e ∙ z)) in
    cc

-- equal outcomes have equal answers, and leave the same
pub leaving_parts : {A M : Type 0} (x y : Answer A) (m n : M) → (x leaving m) ≡ (y leaving n) → (x ≡ y) × (m ≡ n)
leaving_parts x y m n e = (cc, cc)

-- and back: a call that answered found no refusal, answered the value, and left what it makes
pub answer_given : {A : Type 0} (n : ℕ) (value given : A) → answer n value ≡ answered given
    → (n ≡ 0) × (value ≡ given)
answer_given n value given e =
    ⊎_elim
    (λ (z : n ≡ 0). let a = answer_answered n value z in (z, cc))
    (λ (d : n ≡ 0 → ⊥).
    let r = answer_refused n value d in
    let z : ◌≡◌ {A = ℕ} 0 1 = cc in absurd (omega arith))
    (equal_or_not n 0)

-- a call that refused found that refusal
pub answer_refusal : {A : Type 0} (n : ℕ) (value : A) (given : ℕ) → answer n value ≡ refused given → (n ≡ given) × (n ≡ 0 → ⊥)
answer_refusal n value given e =
    ⊎_elim
    (λ (z : n ≡ 0).
    let a = answer_answered n value z in
    let z : ◌≡◌ {A = ℕ} 0 1 = cc in absurd (omega arith))
    (λ (d : n ≡ 0 → ⊥). let r = answer_refused n value d in (cc, d))
    (equal_or_not n 0)

pub leaving_given : {A M : Type 0} (n : ℕ) (value given : A) (before made left : M)
    → (answer n value leaving after n before made) ≡ (answered given leaving left)
    → (n ≡ 0) × (value ≡ given) × (made ≡ left)
leaving_given n value given before made left e =
    let p = leaving_parts (answer n value) (answered given) (after n before made) left e in
    let g = answer_given n value given p.0 in
    (g.0, g.1, sym (after_answered n before made g.0) ∙ p.1)

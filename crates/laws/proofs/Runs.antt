-- A run of values is written from the front: one a turn, or a part at a time by somebody who was lent the rest. Cited by the proofs of every crate that fills a row.
-- Assumes nothing.
use mathlib.Core.Path.{◌≡◌, refl, sym, ap, ◌∙◌}
use mathlib.Core.List.{List, [], ◌∷◌, ◌++◌, append_assoc, append-nil}
use mathlib.Core.Logic.{⊎_elim}
use Prim.Native.Nat.{ℕ, zero, suc, ◌+◌, ◌-◌, ◌<◌, ◌≤◌}
use native.Mathlib.Nat.{eq-or-lt_of_le, le_of_suc-le-suc, add-zero, add-suc}
use native.Mathlib.Numerals.{add-one}
use native.Mathlib.Omega.{arith}
use lib.ListN.{length, set, take, drop, get_or, length-append, length-drop, drop_of_length-le, get_or-append}
use lib.Seq.{drop-cons, set_at, append_snoc, get_or_at, take_at, take_all, drop_at, drop-drop}
use Rattle.laws.specs.Runs.{run}
use Rattle.laws.proofs.Parts.{take_within, take_taken}

pub run_length : (f : ℕ → ℕ) (n : ℕ) → length (run f n) ≡ n
unfolding run
run_length f zero = refl
run_length f (suc n) = length-append (run f n) (f (n + 1) ∷ []) ∙ omega (arith, run_length f n)

pub run_none : (f : ℕ → ℕ) (d : List ℕ) → d ≡ run f 0 ++ drop 0 d
unfolding run
run_none f d = refl

-- a turn: from what stood before it and the value that it wrote
pub run_turn : (f : ℕ → ℕ) (n v : ℕ) (d out : List ℕ) → n < length d → out ≡ run f n ++ drop n d → v ≡ f (n + 1)
    → set out n v ≡ run f (n + 1) ++ drop (n + 1) d
unfolding run
run_turn f n v d out h e q =
    ap (λ (l : List ℕ). set l n v) e
    ∙ ap (λ (x : ℕ). set (run f n ++ drop n d) n x) q
    ∙ ap (λ (l : List ℕ). set (run f n ++ l) n (f (n + 1))) (drop-cons d n 0 h)
    ∙ set_at (run f n) (get_or d n 0) (drop (suc n) d) (f (n + 1)) n (run_length f n)
    ∙ sym (append_snoc (run f n) (f (n + 1)) (drop (suc n) d))
    ∙ ap (λ (k : ℕ). run f k ++ drop k d) (sym (add-one n))

-- place p of a run, counted from 0, holds its value p + 1
pub run_at : (f : ℕ → ℕ) (n p : ℕ) → p < n → get_or (run f n) p 0 ≡ f (p + 1)
unfolding run
run_at f zero p h = absurd (omega arith)
run_at f (suc n) p h =
    ⊎_elim
    (λ (e : p ≡ n). ap (λ (i : ℕ). get_or (run f n ++ (f (n + 1) ∷ [])) i 0) e ∙ get_or_at (run f n) (f (n + 1)) [] 0 n (run_length f n) ∙ ap (λ (i : ℕ). f (i + 1)) (sym e))
    (λ (l : p < n). get_or-append (run f n) (f (n + 1) ∷ []) 0 p (omega (arith, run_length f n)) ∙ run_at f n p l)
    (eq-or-lt_of_le (le_of_suc-le-suc h))

-- two runs are equal where their values are
pub run_alike : (f g : ℕ → ℕ) (n : ℕ) → ((i : ℕ) → 1 ≤ i → i ≤ n → f i ≡ g i) → run f n ≡ run g n
unfolding run
run_alike f g zero h = refl
run_alike f g (suc n) h =
    ap (λ (l : List ℕ). l ++ (f (n + 1) ∷ [])) (run_alike f g n (λ i low high. h i low (omega arith)))
    ∙ ap (λ (x : ℕ). run g n ++ (x ∷ [])) (h (n + 1) (omega arith) (omega arith))

pub run_same : (f g : ℕ → ℕ) (n : ℕ) → ((i : ℕ) → 1 ≤ i → f i ≡ g i) → run f n ≡ run g n
run_same f g n h = run_alike f g n (λ i low high. h i low)

-- a run cut anywhere: its first a values, and the run of those behind them
pub run_cut : (f : ℕ → ℕ) (a m : ℕ) → run f (a + m) ≡ run f a ++ run (λ (i : ℕ). f (i + a)) m
unfolding run
run_cut f a zero = ap (run f) (add-zero a) ∙ sym (append-nil (run f a))
run_cut f a (suc m) =
    let same : a + m + 1 ≡ m + 1 + a = omega arith in
    ap (run f) (add-suc a m)
    ∙ ap (λ (l : List ℕ). l ++ (f (a + m + 1) ∷ [])) (run_cut f a m)
    ∙ ap (λ (k : ℕ). (run f a ++ run (λ (i : ℕ). f (i + a)) m) ++ (f k ∷ [])) same
    ∙ append_assoc (run f a) (run (λ (i : ℕ). f (i + a)) m) (f (m + 1 + a) ∷ [])

-- a part of a run: k values at the most, behind its first a
run_front : (f : ℕ → ℕ) (n m : ℕ) → m ≤ n → take m (run f n) ≡ run f m
run_front f n m h =
    let all : n ≡ m + (n - m) = omega arith in
    ap (λ (x : ℕ). take m (run f x)) all ∙ ap (take m) (run_cut f m (n - m)) ∙ take_at (run f m) (run (λ (i : ℕ). f (i + m)) (n - m)) m (run_length f m)

run_after : (f : ℕ → ℕ) (n a : ℕ) → a ≤ n → drop a (run f n) ≡ run (λ (i : ℕ). f (i + a)) (n - a)
run_after f n a h =
    let all : n ≡ a + (n - a) = omega arith in
    ap (λ (x : ℕ). drop a (run f x)) all ∙ ap (drop a) (run_cut f a (n - a)) ∙ drop_at (run f a) (run (λ (i : ℕ). f (i + a)) (n - a)) a (run_length f a)

pub run_part : (f : ℕ → ℕ) (n a k m : ℕ) → a ≤ n → m ≡ length (take k (drop a (run f n))) → take k (drop a (run f n)) ≡ run (λ (i : ℕ). f (i + a)) m
run_part f n a k m h e =
    let g : ℕ → ℕ = λ i. f (i + a) in
    let rest = run_after f n a h in
    let few : m ≤ n - a = omega (arith, e, take_within k (drop a (run f n)), length-drop a (run f n), run_length f n) in
    take_taken k (drop a (run f n)) ∙ ap (λ (x : ℕ). take x (drop a (run f n))) (sym e) ∙ ap (take m) rest ∙ run_front g (n - a) m few

-- how long what a run was written into is: as long as it was
pub run_fits : (f : ℕ → ℕ) (n : ℕ) (d : List ℕ) → n ≤ length d → length (run f n ++ drop n d) ≡ length d
run_fits f n d h = length-append (run f n) (drop n d) ∙ omega (arith, run_length f n, length-drop n d)

-- the rest of a slice from place a on, as it is lent by `&mut out[a..]`
abbrev pub rest : ℕ → List ℕ → List ℕ
rest a out = take (length out - a) (drop a out)

-- the slice with that rest put back, as it then is
abbrev pub put_back : ℕ → List ℕ → List ℕ → List ℕ
put_back a out part = take a out ++ (part ++ drop (length out - a) (drop a out))

rest_is : (a : ℕ) (out : List ℕ) → rest a out ≡ drop a out
rest_is a out = take_all (length out - a) (drop a out) (omega (arith, length-drop a out))

pub rest_length : (a : ℕ) (out : List ℕ) → length (rest a out) ≡ length out - a
rest_length a out = ap length (rest_is a out) ∙ length-drop a out

-- behind a values that stand already, m more are written by somebody who was lent the rest
pub run_behind : (f g : ℕ → ℕ) (a m : ℕ) (d out part : List ℕ) → out ≡ run f a ++ drop a d → part ≡ run g m ++ drop m (rest a out)
    → ((i : ℕ) → 1 ≤ i → i ≤ m → g i ≡ f (i + a)) → put_back a out part ≡ run f (a + m) ++ drop (a + m) d
run_behind f g a m d out part e p same =
    let front : take a out ≡ run f a = ap (take a) e ∙ take_at (run f a) (drop a d) a (run_length f a) in
    let back : drop a out ≡ drop a d = ap (drop a) e ∙ drop_at (run f a) (drop a d) a (run_length f a) in
    let none : drop (length out - a) (drop a out) ≡ [] = drop_of_length-le (drop a out) {i = length out - a} (omega (arith, length-drop a out)) in
    let written : part ≡ run (λ (i : ℕ). f (i + a)) m ++ drop (a + m) d =
    p ∙ ap (λ (l : List ℕ). run g m ++ drop m l) (rest_is a out ∙ back) ∙ rw (run_alike g (λ (i : ℕ). f (i + a)) m same, drop-drop m a d) in
    ap (λ (l : List ℕ). l ++ (part ++ drop (length out - a) (drop a out))) front
    ∙ ap (λ (l : List ℕ). run f a ++ (part ++ l)) none
    ∙ ap (λ (l : List ℕ). run f a ++ l) (append-nil part ∙ written)
    ∙ sym (append_assoc (run f a) (run (λ (i : ℕ). f (i + a)) m) (drop (a + m) d))
    ∙ ap (λ (l : List ℕ). l ++ drop (a + m) d) (sym (run_cut f a m))

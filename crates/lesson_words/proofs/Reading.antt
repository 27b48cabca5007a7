-- What a line's words stand for, word by word. Cited by the proofs of `numbers`.
-- Assumes nothing.
use mathlib.Core.Path.{◌≡◌, refl, sym, ap, ◌∙◌}
use mathlib.Core.Bool.{Bool, true, false, not, cond, ◌&&◌}
use mathlib.Core.List.{List, [], ◌∷◌}
use Prim.Native.Nat.{ℕ, suc, ◌+◌, ◌-◌, ◌<◌, ◌≤◌}
use Prim.Native.String.{String}
use native.Mathlib.Numerals.{add-one}
use native.Mathlib.Omega.{arith}
use lib.Dec.{eqb}
use lib.ListN.{length, take, drop, get_or, set, length-drop, drop_of_length-le}
use lib.Seq.{drop-cons, length-take-le}
use Rattle.std.proofs.Common.{Option, None, Some, is_some, unwrap_or}
use Rattle.std.specs.Bool.{then_some}
use Rattle.std.specs.List.{list_all}
use Rattle.std.specs.Str.{bytes_eq}
use Rattle.laws.specs.Lists.{every}
use Rattle.laws.specs.Text.{bytes}
use Rattle.lesson_words.specs.Words.{word_in, rest_of, same_text, is_text}
use Rattle.lesson_words.specs.Numbers.{is_none, is_bit, is_row, value_if, turn_of, row_of, meant_by, fits, values_from}
use Rattle.lesson_words.proofs.Text.{same_bytes}

-- a test of every byte, as `all` gives it
list_every : (p : ℕ → Bool) (l : List ℕ) → list_all p l ≡ every p l
unfolding every
list_every p [] = refl
list_every p (b ∷ l) = ap (λ (t : Bool). p b && t) (list_every p l)

some_if : (b : Bool) (v : ℕ) → then_some b v ≡ value_if b v
unfolding value_if
some_if true v = refl
some_if false v = refl

-- a row
pub is_row_lem : (w : List ℕ) (none bits : Bool) → none ≡ eqb (length w) 0 → bits ≡ list_all is_bit w → then_some (not none && bits) 0 ≡ row_of w
unfolding row_of is_row is_none
is_row_lem w none bits e b =
    some_if (not none && bits) 0 ∙ ap (λ (t : Bool). value_if (not t && bits) 0) e
    ∙ ap (λ (t : Bool). value_if (not (eqb (length w) 0) && t) 0) (b ∙ list_every is_bit w)

-- a word is compared with this one
is_named : (text : String) (w m : List ℕ) (r : Bool) → r ≡ bytes_eq w m → m ≡ bytes text → r ≡ is_text text w
unfolding is_text
is_named text w m r e q = e ∙ same_bytes w m ∙ ap (same_text w) q

-- `down`, `up`, and any other word
module _ (w m : List ℕ) (e : m ≡ bytes "down") where
  pub is_down : (r : Bool) → r ≡ bytes_eq w m → r ≡ true → Some 1 ≡ turn_of w
  unfolding turn_of value_if
  is_down r c t = sym (ap (λ (b : Bool). cond b (value_if true 1) (value_if (is_text "up" w) 0)) (sym (is_named "down" w m r c e) ∙ t))

  pub is_up : (r : Bool) → r ≡ bytes_eq w m → r ≡ false → (n : List ℕ) (s : Bool) → s ≡ bytes_eq w n → n ≡ bytes "up" → value_if s 0 ≡ turn_of w
  unfolding turn_of value_if
  is_up r c t n s d q =
      ap (λ (b : Bool). value_if b 0) (is_named "up" w n s d q)
      ∙ sym (ap (λ (b : Bool). cond b (value_if true 1) (value_if (is_text "up" w) 0)) (sym (is_named "down" w m r c e) ∙ t))

-- the loop of `read`: what stands from `to` on is still to be read
module _ (kinds text : List ℕ) (i to : ℕ) where
  module _ (next : ℕ) (word : List ℕ) (m : Option ℕ) (h : i < length kinds) (here : word ≡ word_in (drop to text)) (rest : drop next text ≡ rest_of (drop to text))
      (meant : m ≡ meant_by (get_or kinds i 0) word) where
    known : meant_by (get_or kinds i 0) (word_in (drop to text)) ≡ m
    known = ap (meant_by (get_or kinds i 0)) (sym here) ∙ sym meant

    fits_split : fits (drop i kinds) (drop to text) ≡ (is_some m && fits (drop (i + 1) kinds) (drop next text))
    unfolding fits
    fits_split =
        ap (λ (l : List ℕ). fits l (drop to text)) (drop-cons kinds i 0 h)
        ∙ ap (λ (x : Option ℕ). is_some x && fits (drop (suc i) kinds) (rest_of (drop to text))) known
        ∙ ap (λ (l : List ℕ). is_some m && fits (drop (suc i) kinds) l) (sym rest)
        ∙ ap (λ (k : ℕ). is_some m && fits (drop k kinds) (drop next text)) (sym (add-one i))

    -- the word is of its kind, or not
    pub fits_on : (v : ℕ) (w : Bool) → m ≡ Some v → fits (drop i kinds) (drop to text) ≡ w → fits (drop (i + 1) kinds) (drop next text) ≡ w
    fits_on v w e inv = ap (λ (x : Option ℕ). is_some x && fits (drop (i + 1) kinds) (drop next text)) (sym e) ∙ sym fits_split ∙ inv

    pub fits_off : (w : Bool) → m ≡ None → fits (drop i kinds) (drop to text) ≡ w → w ≡ false
    fits_off w e inv = sym inv ∙ fits_split ∙ ap (λ (x : Option ℕ). is_some x && fits (drop (i + 1) kinds) (drop next text)) e

    pub values_any : (v v' w : List ℕ) → v' ≡ set v i (unwrap_or m 0) → values_from i (drop i kinds) (drop to text) v ≡ w
        → values_from (i + 1) (drop (i + 1) kinds) (drop next text) v' ≡ w
    unfolding values_from
    values_any v v' w e inv =
        let split : values_from i (drop i kinds) (drop to text) v ≡ values_from (suc i) (drop (suc i) kinds) (rest_of (drop to text)) (set v i (unwrap_or m 0)) =
        ap (λ (l : List ℕ). values_from i l (drop to text) v) (drop-cons kinds i 0 h)
        ∙ ap (λ (x : Option ℕ). values_from (suc i) (drop (suc i) kinds) (rest_of (drop to text)) (set v i (unwrap_or x 0))) known in
        ap (λ (k : ℕ). values_from k (drop k kinds) (drop next text) v') (add-one i)
        ∙ ap (λ (l : List ℕ). values_from (suc i) (drop (suc i) kinds) l v') rest
        ∙ ap (λ (l : List ℕ). values_from (suc i) (drop (suc i) kinds) (rest_of (drop to text)) l) e
        ∙ sym split ∙ inv

    pub values_on : (x : ℕ) (v v' w : List ℕ) → m ≡ Some x → v' ≡ set v i x → values_from i (drop i kinds) (drop to text) v ≡ w
        → values_from (i + 1) (drop (i + 1) kinds) (drop next text) v' ≡ w
    values_on x v v' w is e inv = values_any v v' w (e ∙ ap (λ (o : Option ℕ). set v i (unwrap_or o 0)) (sym is)) inv

  -- all kinds are passed
  module _ (h : length kinds ≤ i) where
    pub fits_end : (w : Bool) (a b : ℕ) → a ≤ b → b ≤ length text → take (b - a) (drop a text) ≡ word_in (drop to text) → fits (drop i kinds) (drop to text) ≡ w → eqb (b - a) 0 ≡ w
    unfolding fits is_none
    fits_end w a b l r word inv =
        let d : length (drop a text) ≡ length text - a = length-drop a text in
        let n : length (take (b - a) (drop a text)) ≡ b - a = length-take-le (b - a) (drop a text) (omega (arith, d)) in
        ap (λ (k : ℕ). eqb k 0) (sym n ∙ ap length word)
        ∙ sym (ap (λ (l : List ℕ). fits l (drop to text)) (drop_of_length-le kinds h)) ∙ inv

    pub values_end : (v w : List ℕ) → values_from i (drop i kinds) (drop to text) v ≡ w → v ≡ w
    unfolding values_from
    values_end v w inv = sym (ap (λ (l : List ℕ). values_from i l (drop to text) v) (drop_of_length-le kinds h)) ∙ inv

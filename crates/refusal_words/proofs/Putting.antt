-- A text is copied from the front, one byte a turn. Cited by the proof of `put`. Assumes nothing.
use mathlib.Core.Path.{◌≡◌, sym, ap, ◌∙◌}
use mathlib.Core.List.{List, ◌++◌}
use Prim.Native.Nat.{ℕ, suc, ◌+◌, ◌<◌}
use native.Mathlib.Numerals.{add-one}
use native.Mathlib.Omega.{arith}
use lib.ListN.{length, take, drop, set, get_or}
use lib.Seq.{drop-cons, set_at, append_snoc, take-suc, take_all, length-take-le}

-- one more byte
pub copy_turn : (text was out : List ℕ) (i : ℕ) → i < length text → i < length was → out ≡ take i text ++ drop i was
    → set out i (get_or text i 0) ≡ take (i + 1) text ++ drop (i + 1) was
copy_turn text was out i h room e =
    ap (λ (l : List ℕ). set l i (get_or text i 0)) e
    ∙ ap (λ (l : List ℕ). set (take i text ++ l) i (get_or text i 0)) (drop-cons was i 0 room)
    ∙ set_at (take i text) (get_or was i 0) (drop (suc i) was) (get_or text i 0) i (length-take-le i text (omega arith))
    ∙ sym (append_snoc (take i text) (get_or text i 0) (drop (suc i) was))
    ∙ ap (λ (l : List ℕ). l ++ drop (suc i) was) (sym (take-suc text i 0 h))
    ∙ ap (λ (k : ℕ). take k text ++ drop k was) (sym (add-one i))

-- all of it
pub copied : (text was out : List ℕ) (i : ℕ) → i ≡ length text → out ≡ take i text ++ drop i was → out ≡ text ++ drop (length text) was
copied text was out i n e =
    e ∙ ap (λ (k : ℕ). take k text ++ drop k was) n
    ∙ ap (λ (l : List ℕ). l ++ drop (length text) was) (take_all (length text) text (omega arith))

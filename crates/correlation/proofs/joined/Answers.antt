-- `correlation::joined` meets its contract: each halving leaves columns with the same total, and each column is the float of a whole number. Assumes nothing.
use borrow.Author.Rules.{rules}
use mathlib.Core.Path.{◌≡◌, refl, ap, ◌∙◌}
use mathlib.Core.List.{List}
use Prim.Native.Nat.{ℕ, ◌+◌, ◌^◌, ◌<◌}
use native.Mathlib.Omega.{arith}
use lib.ListN.{get_or}
use lib.IntN.{ℤ, ◌+ℤ◌}
use lib.Ieee.{Float, nan, binary32, of_int}
use Rattle.samples.specs.Samples.{sample_of}
use Rattle.correlation.specs.Inside.{Wholes}
use Rattle.correlation.proofs.Halves.{Hold, halved, total_halved, are_wholes, hold_half, last_two}
use Rattle.correlation.proofs.joined.Goals as goal

-- ---- the columns, and what each halving leaves of them
abbrev v : List Float → ℕ → ℤ
v s k = sample_of (get_or s k nan)

abbrev Halving : ℕ → List Float → List Float → Type 0
Halving h before after = (k : ℕ) → k < h → get_or after k nan ≡ of_int binary32 (sample_of (get_or before k nan) +ℤ sample_of (get_or before (k + h) nan))

held : (s : List Float) → Wholes s 32 (2 ^ 18) → Hold (v s) s 32 (2 ^ 18)
held s w = record { is = λ k h. (w.all k h).0; few = λ k h. (w.all k h).1 }

module _ (s : List Float) (w : Wholes s 32 (2 ^ 18)) (a : List Float) (ha : Halving 16 s a) where
  held-16 : Hold (halved 16 (v s)) a 16 (2 ^ 19)
  held-16 = hold_half _ _ 32 (2 ^ 18) (held s w) (omega arith) 16 a (omega arith) ha

  module _ (b : List Float) (hb : Halving 8 a b) where
    held-8 : Hold (halved 8 (halved 16 (v s))) b 8 (2 ^ 20)
    held-8 = hold_half _ _ 16 (2 ^ 19) held-16 (omega arith) 8 b (omega arith) hb

    module _ (c : List Float) (hc : Halving 4 b c) where
      held-4 : Hold (halved 4 (halved 8 (halved 16 (v s)))) c 4 (2 ^ 21)
      held-4 = hold_half _ _ 8 (2 ^ 20) held-8 (omega arith) 4 c (omega arith) hc

      held-2 : (d : List Float) → Halving 2 c d → Hold (halved 2 (halved 4 (halved 8 (halved 16 (v s))))) d 2 (2 ^ 22)
      held-2 d hd = hold_half _ _ 4 (2 ^ 21) held-4 (omega arith) 2 d (omega arith) hd

pub halve-requires : goal.halve-requires
halve-requires c = (search rules, omega arith, are_wholes _ _ 32 (2 ^ 18) (held c.args.columns.now c.requires.1) (omega arith) (2 ^ 23) (omega arith))

pub halve-requires-2 : goal.halve-requires-2
halve-requires-2 c =
    let w = held-16 c.args.columns.now c.requires.1 c.halve.new.columns c.halve.ensures in
    (search rules, omega arith, are_wholes _ _ 16 (2 ^ 19) w (omega arith) (2 ^ 23) (omega arith))

pub halve-requires-3 : goal.halve-requires-3
halve-requires-3 c =
    let w = held-8 c.args.columns.now c.requires.1 c.halve.new.columns c.halve.ensures c.halve-2.new.columns c.halve-2.ensures in
    (search rules, omega arith, are_wholes _ _ 8 (2 ^ 20) w (omega arith) (2 ^ 23) (omega arith))

pub halve-requires-4 : goal.halve-requires-4
halve-requires-4 c =
    let w = held-4 c.args.columns.now c.requires.1 c.halve.new.columns c.halve.ensures c.halve-2.new.columns c.halve-2.ensures c.halve-3.new.columns c.halve-3.ensures in
    (search rules, omega arith, are_wholes _ _ 4 (2 ^ 21) w (omega arith) (2 ^ 23) (omega arith))

pub returns : goal.returns
returns c =
    let w = v c.args.columns.now in
    let last =
    held-2 c.args.columns.now c.requires.1 c.halve.new.columns c.halve.ensures c.halve-2.new.columns c.halve-2.ensures c.halve-3.new.columns c.halve-3.ensures c.halve-4.new.columns
    c.halve-4.ensures in
    last_two _ c.halve-4.new.columns 2 (2 ^ 22) last (omega arith) refl
    ∙ ap (of_int binary32)
    (total_halved 2 (halved 4 (halved 8 (halved 16 w)))
    ∙ total_halved 4 (halved 8 (halved 16 w))
    ∙ total_halved 8 (halved 16 w)
    ∙ total_halved 16 w)

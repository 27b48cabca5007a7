-- Document 02, C-15, one block: what it takes from a good place, "A block of length 0 writes none and
-- keeps the place; after the last chip each block writes none", "a refused block writes nothing"; and
-- that the whole midamble is the one block that is long enough. Over the numbers of a code, so that
-- long and short codes share it. Cited by proofs/Cuts.antt. Assumes nothing.
use mathlib.Core.Path.{◌≡◌, refl, sym, ap, ◌∙◌}
use mathlib.Core.Bool.{Bool, true, false, cond}
use mathlib.Core.List.{List, [], ◌∷◌, ◌++◌}
use mathlib.Core.Logic.{⊎_elim}
use Prim.Native.Nat.{ℕ, ◌+◌, ◌≤◌}
use native.Mathlib.Omega.{arith}
use lib.Dec.{eqb}
use lib.ListN.{length, take, drop}
use lib.Seq.{take_all, take_at, take-nil}
use borrow.Author.Tests.{le-ltb}
use Rattle.laws.proofs.Cases.{equal_or_not}
use Rattle.laws.proofs.Parts.{length_none}
use Rattle.refusals.specs.Refusals.{Answer, Outcome, Refusals, answered, refused, ◌leaving◌}
use Rattle.refusals.specs.Refusals.{first_of, answer, after}
use Rattle.refusals.proofs.First.{first_passes, append_passes}
use Rattle.refusals.proofs.First.{answer_answered, answer_refused, after_answered, after_refused}
use Rattle.conditions.specs.Conditions.{bad_place, too_short}
use Rattle.tables.specs.Tables.{user_refusals}
use Rattle.codes.specs.Codes.{code_of}
use Rattle.midambles.specs.TrainingSequences.{chips_of}
use Rattle.midambles.specs.Calls.{midamble_refusals, midamble_outcome}
use Rattle.midambles.proofs.Answers.{user_numbered}
use Rattle.blocks.specs.declared.Place.{Place}
use Rattle.blocks.specs.Blocks.{place_at, to_come, block_of, place_behind}
use Rattle.blocks.specs.Calls.{block_refusals, block_outcome}
use Rattle.blocks.proofs.Chips.{to_come_lem, within}
use Rattle.blocks.proofs.Answers.{good, good_place}
use Rattle.facts.specs.Orders.{answer_of}
use Rattle.facts.specs.Cuts.{bytes_in, place_in, memory_in}

-- a place at which no block is refused: cell, type, count and user are good, and so is how many chips
-- are written
abbrev pub Good : Place → Type 0
Good p = first_of (block_refusals p) ≡ 0

-- what a block there answers, hands back and leaves
pub good_outcome : (p : Place) (out : List ℕ) → Good p
    → let chips = block_of p out in
    let n = length chips in
    block_outcome p out ≡ (answered n leaving (place_behind p n, chips ++ drop n out))
unfolding block_outcome
good_outcome p out z =
    let chips = block_of p out in
    let n = length chips in
    let made : Place × List ℕ = (place_behind p n, chips ++ drop n out) in
    ap (λ (a : Answer ℕ). a leaving after (first_of (block_refusals p)) (p, out) made)
    (answer_answered _ n z)
    ∙ ap (λ (m : Place × List ℕ). answered n leaving m) (after_answered _ (p, out) made z)

pub first_bytes : (p : Place) (out : List ℕ)
    → let chips = block_of p out in take (length chips) (chips ++ drop (length chips) out) ≡ chips
first_bytes p out =
    let chips = block_of p out in
    take_at chips (drop (length chips) out) (length chips) refl

-- the place behind it is good too
good_behind : (p : Place) (n : ℕ) → Good p → p.written + n ≤ (code_of p.burst).length
    → Good (place_behind p n)
unfolding block_refusals place_behind bad_place first_of
good_behind p n z h =
    append_passes (user_refusals p.cell p.burst p.count p.user) _
    (user_numbered p.cell p.burst p.count p.user) (good p z).0
    ∙ first_passes 23 _ [] (le-ltb (code_of p.burst).length (p.written + n) h)

pub next_good : (p : Place) (out : List ℕ) → Good p → Good (place_behind p (length (block_of p out)))
unfolding block_of
next_good p out z =
    good_behind p (length (block_of p out)) z (omega (arith, within p (length out), good_place p z))

-- ---- "A block of length 0 writes none and keeps the place; after the last chip each block writes none."

pub behind_none : (p : Place) → place_behind p 0 ≡ p
unfolding place_behind
behind_none p =
    let e : p.written + 0 ≡ p.written = omega arith in
    λ j. record { cell = p.cell; burst = p.burst; count = p.count; user = p.user; written = e j }

no_chips : (p : Place) (out : List ℕ) → Good p → block_of p out ≡ []
    → block_outcome p out ≡ (answered 0 leaving (p, out))
no_chips p out z e =
    good_outcome p out z
    ∙ ap (λ (l : List ℕ). answered (length l) leaving (place_behind p (length l), l ++ drop (length l) out)) e
    ∙ ap (λ (q : Place). answered 0 leaving (q, out)) (behind_none p)

pub empty_block : (p : Place) → Good p → block_outcome p [] ≡ (answered 0 leaving (p, []))
unfolding block_of
empty_block p z = no_chips p [] z refl

pub at_the_end : (p : Place) (out : List ℕ) → Good p → p.written ≡ (code_of p.burst).length
    → block_outcome p out ≡ (answered 0 leaving (p, out))
unfolding block_of
at_the_end p out z e =
    no_chips p out z
    (ap (take (length out)) (length_none (to_come p) (omega (arith, to_come_lem p, e))) ∙ take-nil (length out))

-- ---- "a refused block writes nothing", and hands its place back

pub refused_keeps : (p : Place) (out : List ℕ) → (Good p → ⊥)
    → block_outcome p out ≡ (refused (first_of (block_refusals p)) leaving (p, out))
unfolding block_outcome
refused_keeps p out h =
    let n = first_of (block_refusals p) in
    let chips = block_of p out in
    let made : Place × List ℕ = (place_behind p (length chips), chips ++ drop (length chips) out) in
    ap (λ (a : Answer ℕ). a leaving after n (p, out) made) (answer_refused n (length chips) h)
    ∙ ap (λ (m : Place × List ℕ). refused n leaving m) (after_refused n (p, out) made h)

-- ---- a block that is long enough takes all that is left, and a longer one no more

pub enough_room : (p : Place) (out : List ℕ) → (code_of p.burst).length ≤ length out
    → block_of p out ≡ to_come p
unfolding block_of
enough_room p out room = take_all (length out) (to_come p) (omega (arith, to_come_lem p))

filled : (p : Place) (out : List ℕ) → Good p → (code_of p.burst).length ≤ length out
    → let o = block_outcome p out in
    let n = length (to_come p) in
    (answer_of o ≡ answered n) × (place_in o ≡ place_behind p n) × (bytes_in o ≡ to_come p)
unfolding answer_of place_in bytes_in
filled p out z h =
    let o = good_outcome p out z in
    let all = enough_room p out h in (
      ap answer_of o ∙ ap (λ (l : List ℕ). answered (length l)) all,
      ap place_in o ∙ ap (λ (l : List ℕ). place_behind p (length l)) all,
      ap bytes_in o ∙ first_bytes p out ∙ all,
    )

-- so two of them, of whatever lengths, have the same answer, place and bytes; refused ones too
abbrev Alike : Outcome ℕ (Place × List ℕ) → Outcome ℕ (Place × List ℕ) → Type 0
Alike o o' = (answer_of o ≡ answer_of o') × (place_in o ≡ place_in o') × (bytes_in o ≡ bytes_in o')

pub longer_alike : (p : Place) (out out' : List ℕ)
    → (code_of p.burst).length ≤ length out → (code_of p.burst).length ≤ length out'
    → Alike (block_outcome p out) (block_outcome p out')
unfolding answer_of place_in bytes_in
longer_alike p out out' h h' =
    ⊎_elim
    (λ (z : Good p).
    let one = filled p out z h in
    let other = filled p out' z h' in
    (one.0 ∙ sym other.0, one.1 ∙ sym other.1, one.2 ∙ sym other.2))
    (λ (n : Good p → ⊥).
    let one = refused_keeps p out n in
    let other = refused_keeps p out' n in
    (ap answer_of one ∙ sym (ap answer_of other), ap place_in one ∙ sym (ap place_in other), ap bytes_in one ∙ sym (ap bytes_in other)))
    (equal_or_not (first_of (block_refusals p)) 0)

-- ---- the whole midamble is the one block that is long enough

pub all_to_come : (cell burst count user : ℕ)
    → to_come (place_at cell burst count user) ≡ chips_of cell burst user
unfolding to_come
all_to_come cell burst count user = refl

-- a row that does not hold says nothing, whatever its number
silent_row : (t : Refusals) (n m : ℕ)
    → first_of (t ++ ((n, false) ∷ [])) ≡ first_of (t ++ ((m, false) ∷ []))
unfolding first_of
silent_row [] n m = refl
silent_row (row ∷ t) n m = ap (cond row.1 row.0) (silent_row t n m)

same_refusals : (cell burst count user : ℕ) (out : List ℕ) → (code_of burst).length ≤ length out
    → first_of (block_refusals (place_at cell burst count user))
    ≡ first_of (midamble_refusals cell burst count user out)
unfolding block_refusals midamble_refusals bad_place too_short
same_refusals cell burst count user out room =
    let t = user_refusals cell burst count user in
    let L = (code_of burst).length in
    ap (λ (b : Bool). first_of (t ++ ((23, b) ∷ []))) (le-ltb L 0 (omega arith))
    ∙ silent_row t 23 11
    ∙ ap (λ (b : Bool). first_of (t ++ ((11, b) ∷ []))) (sym (le-ltb (length out) L room))

after_second : (n : ℕ) (p q : Place) (out made : List ℕ)
    → (after {M = Place × List ℕ} n (p, out) (q, made)).1 ≡ after n out made
unfolding after
after_second n p q out made = by (eqb n 0)
  where
    by : (b : Bool) → let m : Place × List ℕ = cond b (q, made) (p, out) in m.1 ≡ cond b made out
    by true = refl
    by false = refl

-- for any numbers, refused ones too: the same answer, and the same memory
pub whole_block : (cell burst count user : ℕ) (out : List ℕ) → (code_of burst).length ≤ length out
    → memory_in (block_outcome (place_at cell burst count user) out)
    ≡ midamble_outcome cell burst count user out
unfolding memory_in block_outcome midamble_outcome
whole_block cell burst count user out room =
    let L = (code_of burst).length in
    let s = place_at cell burst count user in
    let n = first_of (block_refusals s) in
    let chips = block_of s out in
    let all = enough_room s out room in
    let many : length chips ≡ L = omega (arith, ap length all, to_come_lem s) in
    ap (λ (m : List ℕ). answer n (length chips) leaving m)
    (after_second n s (place_behind s (length chips)) out (chips ++ drop (length chips) out))
    ∙ ap (λ (k : ℕ). answer n k leaving after n out (chips ++ drop k out)) many
    ∙ ap (λ (l : List ℕ). answer n L leaving after n out (l ++ drop L out))
    (all ∙ all_to_come cell burst count user)
    ∙ ap (λ (k : ℕ). answer k L leaving after k out (chips_of cell burst user ++ drop L out))
    (same_refusals cell burst count user out room)

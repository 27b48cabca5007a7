-- Document 02, C-15: "However the blocks are cut, the chips joined are those of document 01." One
-- argument for any list of lent blocks and both codes. No function's proof cites it: it is for the
-- reader. Assumes nothing.
use mathlib.Core.Path.{◌≡◌, refl, sym, ap, ◌∙◌}
use mathlib.Core.List.{List, [], ◌∷◌, ◌++◌}
use Prim.Native.Nat.{ℕ, ◌+◌, ◌≤◌}
use native.Mathlib.Omega.{arith}
use lib.ListN.{length, take, drop, length-append}
use lib.Seq.{take_all, drop-drop}
use borrow.Author.Tests.{le-ltb}
use Rattle.laws.specs.Lists.{total}
use Rattle.laws.proofs.Parts.{take_parts}
use Rattle.refusals.specs.Refusals.{Outcome, answered, first_of}
use Rattle.refusals.proofs.First.{first_passes, append_passes, answer_given}
use Rattle.conditions.specs.Conditions.{bad_place}
use Rattle.tables.specs.Tables.{user_refusals}
use Rattle.codes.specs.Codes.{code_of}
use Rattle.midambles.specs.TrainingSequences.{chips_of}
use Rattle.midambles.proofs.Answers.{user_numbered}
use Rattle.blocks.specs.declared.Place.{Place}
use Rattle.blocks.specs.Blocks.{place_at, to_come, block_of, place_behind}
use Rattle.blocks.specs.Calls.{start_answer, block_refusals}
use Rattle.blocks.proofs.Chips.{to_come_lem}
use Rattle.facts.specs.Cuts.{bytes_in, place_in, joined, last_place}
use Rattle.facts.proofs.Blocks.{Good, good_outcome, first_bytes, next_good, behind_none}
use Rattle.facts.proofs.Blocks.{all_to_come}

-- the chips behind a block are those that were to come, without the block's
behind_come : (p : Place) (n : ℕ) → to_come (place_behind p n) ≡ drop n (to_come p)
unfolding to_come place_behind
behind_come p n = sym (drop-drop n p.written (chips_of p.cell p.burst p.user))

two_parts : (p : Place) (out : List ℕ) (t : ℕ)
    → block_of p out ++ take t (drop (length (block_of p out)) (to_come p))
    ≡ take (length out + t) (to_come p)
unfolding block_of
two_parts p out t = take_parts (length out) t (to_come p)

-- a block, then the others from the place that it hands back
then_joined : (p : Place) (out : List ℕ) (outs : List (List ℕ)) → Good p
    → let chips = block_of p out in
    joined p (out ∷ outs) ≡ chips ++ joined (place_behind p (length chips)) outs
unfolding joined bytes_in place_in
then_joined p out outs z =
    let next = place_behind p (length (block_of p out)) in
    ap (λ (x : Outcome ℕ (Place × List ℕ)). bytes_in x ++ joined (place_in x) outs)
    (good_outcome p out z)
    ∙ ap (λ (l : List ℕ). l ++ joined next outs) (first_bytes p out)

-- from any good place on, into any list of lent blocks: as many chips as the blocks have bytes, in
-- their order
pub cut_anyhow : (p : Place) (outs : List (List ℕ)) → Good p
    → joined p outs ≡ take (total length outs) (to_come p)
unfolding total joined
cut_anyhow p [] z = refl
cut_anyhow p (out ∷ outs) z =
    let chips = block_of p out in
    then_joined p out outs z
    ∙ ap (λ (l : List ℕ). chips ++ l)
    (cut_anyhow (place_behind p (length chips)) outs (next_good p out z)
    ∙ ap (take (total length outs)) (behind_come p (length chips)))
    ∙ two_parts p out (total length outs)

-- a start that was answered is a good place, before the first chip
pub start_good : (cell burst count user : ℕ) (p : Place) → start_answer cell burst count user ≡ answered p
    → (place_at cell burst count user ≡ p) × Good (place_at cell burst count user)
unfolding start_answer block_refusals bad_place first_of
start_good cell burst count user p e =
    let g = answer_given _ (place_at cell burst count user) p e in
    let t = user_refusals cell burst count user in (
      g.1,
      append_passes t _ (user_numbered cell burst count user) g.0
          ∙ first_passes 23 _ [] (le-ltb (code_of burst).length 0 (omega arith)),
    )

-- so blocks that have room for a midamble, however it is cut, with zeros and too long ones among them,
-- hold its chips and no others
pub blocks_joined : (cell burst count user : ℕ) (p : Place) (outs : List (List ℕ))
    → start_answer cell burst count user ≡ answered p → (code_of burst).length ≤ total length outs
    → joined p outs ≡ chips_of cell burst user
blocks_joined cell burst count user p outs e room =
    let g = start_good cell burst count user p e in
    let s = place_at cell burst count user in
    ap (λ (q : Place). joined q outs) (sym g.0)
    ∙ cut_anyhow s outs g.1
    ∙ take_all (total length outs) (to_come s) (omega (arith, to_come_lem s))
    ∙ all_to_come cell burst count user

-- and the place counts what was written, block behind block
behind_twice : (p : Place) (a b : ℕ) → place_behind (place_behind p a) b ≡ place_behind p (a + b)
unfolding place_behind
behind_twice p a b =
    let e : p.written + a + b ≡ p.written + (a + b) = omega arith in
    λ j. record { cell = p.cell; burst = p.burst; count = p.count; user = p.user; written = e j }

pub place_counts : (p : Place) (outs : List (List ℕ)) → Good p
    → last_place p outs ≡ place_behind p (length (joined p outs))
unfolding last_place joined place_in
place_counts p [] z = sym (behind_none p)
place_counts p (out ∷ outs) z =
    let chips = block_of p out in
    let q = place_behind p (length chips) in
    let all = ap length (then_joined p out outs z) ∙ length-append chips (joined q outs) in
    ap (λ (x : Outcome ℕ (Place × List ℕ)). last_place (place_in x) outs) (good_outcome p out z)
    ∙ place_counts q outs (next_good p out z)
    ∙ behind_twice p (length chips) (length (joined q outs))
    ∙ ap (place_behind p) (sym all)

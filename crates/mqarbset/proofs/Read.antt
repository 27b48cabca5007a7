-- What a C caller reads off a struct is the answer of document 01 or 02: nothing is lost on the way. Cited by no proof: it is for the reader of the promises.
-- Assumes nothing.
use mathlib.Core.Path.{◌≡◌, refl, ap}
use mathlib.Core.Bool.{Bool, true, false, cond}
use mathlib.Core.List.{List, [], ◌∷◌}
use Prim.Native.Nat.{ℕ, zero, suc, ◌+◌, ◌-◌}
use native.Mathlib.Omega.{arith}
use lib.Dec.{eqb}
use lib.ListN.{get_or}
use lib.Ieee.{Float}
use borrow.Author.Tests.{ne_eqb}
use Rattle.refusals.specs.Refusals.{Answer, refused, answered, first_of, answer, ◌leaving◌}
use Rattle.midambles.specs.Calls.{chip_answer, midamble_outcome}
use Rattle.blocks.specs.declared.Place.{Place}
use Rattle.blocks.specs.Calls.{start_answer, block_refusals, block_outcome}
use Rattle.signal_card.specs.Calls.{pair_answer, pairs_outcome}
use Rattle.hearing.specs.Calls.{nobody, heard_of, who_is_heard, hear_answer}
use Rattle.timeslots.specs.Timeslots.{Part, DATA1, TFCI1, MIDAMBLE, TPC, TFCI2, DATA2, GUARD, order, part_lengths, spans, seven_parts}
use Rattle.beacons.specs.Beacons.{beacons_of}
use Rattle.beacons.specs.Calls.{beacon_answer}
use Rattle.paging.specs.Paging.{place_of, Owner, reserved, owned}
use Rattle.paging.specs.Calls.{indicator_answer, owner_answer, page_outcome, read_page_outcome}
use Rattle.std.specs.Prelude.{Option, None, Some}
use Rattle.conditions.specs.declared.Direction.{Direction}
use Rattle.conditions.specs.declared.Direction.TheVariants.{Up, Down}
use Rattle.slots.specs.Slots.{way_number}
use Rattle.classbook.specs.declared.Book.{Book}
use Rattle.summaries.specs.declared.Glance.{Glance}
use Rattle.summaries.specs.Summaries.{summary_answer}
use Rattle.mqarbset_list.specs.Records.{records_outcome}
use Rattle.refusal_words.specs.Words.{putting, words_outcome}
use Rattle.mqarbset_answers.specs.Answers.{answer_as_c, outcome_as_c, answer_in_c}
use Rattle.mqarbset_answers.specs.Parts.{parts_as_c, part_number, place_as_c, beacons_as_c, zipped, parts_in_c, place_in_c, beacons_in_c}
use Rattle.mqarbset_answers.specs.Pages.{indicator_as_c, owner_as_c, indicator_in_c, owner_in_c}
use Rattle.mqarbset_answers.specs.Pairs.{pair_as_c, pair_in_c}
use Rattle.mqarbset_answers.specs.Air.{heard_as_c, heard_in_c}
use Rattle.mqarbset_answers.specs.Summaries.{summary_as_c, way_of, summary_in_c}
use Rattle.mqarbset_answers.specs.Blocks.{place_as_held, held_as_place, start_as_c, start_in_c, block_as_c, block_outcome_as_c, block_in_c}
use Rattle.mqarbset.specs.Calls.{parts_answer_over_c, at_answer_over_c}

-- an answer that goes by a first refusal's number is read back if its value is
module _ {A S : Type 0} (write : Answer A → S) (read : S → Answer A) (no-refusal : (n : ℕ) → eqb n 0 ≡ false → read (write (refused n)) ≡ refused n) where
  by_test : (z : Bool) (n : ℕ) (v : A) → eqb n 0 ≡ z → (eqb n 0 ≡ true → read (write (answered v)) ≡ answered v) → read (write (cond z (answered v) (refused n))) ≡ cond z (answered v) (refused n)
  by_test true n v e h = h e
  by_test false n v e h = no-refusal n e

  pub back : (n : ℕ) (v : A) → (eqb n 0 ≡ true → read (write (answered v)) ≡ answered v) → read (write (answer n v)) ≡ answer n v
  unfolding answer
  back n v h = by_test (eqb n 0) n v refl h

-- ---- a value

pub read_answer : (n v : ℕ) → answer_in_c (answer_as_c (answer n v)) ≡ answer n v
unfolding answer_in_c answer_as_c
read_answer n v = back answer_as_c answer_in_c (λ m e. simp e) n v (λ _. refl)

pub read_chip : (cell burst count user chip : ℕ) → answer_in_c (answer_as_c (chip_answer cell burst count user chip)) ≡ chip_answer cell burst count user chip
unfolding chip_answer
read_chip cell burst count user chip = read_answer _ _

-- ---- a value, and lent memory

pub read_leaving : {M : Type 0} (n v : ℕ) (m : M) → answer_in_c (outcome_as_c (answer n v leaving m)).0 leaving (outcome_as_c (answer n v leaving m)).1 ≡ answer n v leaving m
unfolding outcome_as_c
read_leaving n v m = ap (λ (a : Answer ℕ). a leaving m) (read_answer n v)

pub read_midamble : (cell burst count user : ℕ) (out : List ℕ)
    → answer_in_c (outcome_as_c (midamble_outcome cell burst count user out)).0 leaving (outcome_as_c (midamble_outcome cell burst count user out)).1 ≡ midamble_outcome cell burst count user out
unfolding midamble_outcome
read_midamble cell burst count user out = read_leaving _ _ _

pub read_list : (b : Book) (seat : ℕ) (out : List ℕ)
    → answer_in_c (outcome_as_c (records_outcome b seat out)).0 leaving (outcome_as_c (records_outcome b seat out)).1 ≡ records_outcome b seat out
unfolding records_outcome
read_list b seat out = read_leaving _ _ _

pub read_page : (burst length : ℕ) (settings out : List ℕ)
    → answer_in_c (outcome_as_c (page_outcome burst length settings out)).0 leaving (outcome_as_c (page_outcome burst length settings out)).1 ≡ page_outcome burst length settings out
unfolding page_outcome
read_page burst length settings out = read_leaving _ _ _

pub read_read_page : (burst length : ℕ) (bits out : List ℕ)
    → answer_in_c (outcome_as_c (read_page_outcome burst length bits out)).0 leaving (outcome_as_c (read_page_outcome burst length bits out)).1 ≡ read_page_outcome burst length bits out
unfolding read_page_outcome
read_read_page burst length bits out = read_leaving _ _ _

pub read_text : (number : ℕ) (out : List ℕ) → answer_in_c (outcome_as_c (words_outcome number out)).0 leaving (outcome_as_c (words_outcome number out)).1 ≡ words_outcome number out
unfolding words_outcome putting
read_text number out = read_leaving _ _ _

pub read_pairs : (cell burst count user level : ℕ) (out : List Float)
    → answer_in_c (outcome_as_c (pairs_outcome cell burst count user level out)).0 leaving (outcome_as_c (pairs_outcome cell burst count user level out)).1 ≡ pairs_outcome cell burst count user level out
unfolding pairs_outcome
read_pairs cell burst count user level out = read_leaving _ _ _

-- ---- blocks: a place is held and handed in as it was handed back

pub held_back : (p : Place) → held_as_place (place_as_held p) ≡ p
unfolding held_as_place place_as_held
held_back p = refl

pub read_block_start : (cell burst count user : ℕ) → start_in_c (start_as_c (start_answer cell burst count user)) ≡ start_answer cell burst count user
unfolding start_in_c start_as_c start_answer held_as_place place_as_held
read_block_start cell burst count user = back start_as_c start_in_c (λ m e. simp e) _ _ (λ _. refl)

-- the bytes and the place are in the struct whatever the answer
read_with_place : (z : Bool) (n v : ℕ) (m : Place × List ℕ) → eqb n 0 ≡ z
    → block_in_c (block_outcome_as_c (cond z (answered v) (refused n) leaving m)) ≡ cond z (answered v) (refused n) leaving m
unfolding block_in_c block_outcome_as_c block_as_c held_as_place place_as_held
read_with_place true n v m e = refl
read_with_place false n v m e = simp e

pub read_block : (p : Place) (out : List ℕ) → block_in_c (block_outcome_as_c (block_outcome p out)) ≡ block_outcome p out
unfolding block_outcome answer
read_block p out = read_with_place (eqb (first_of (block_refusals p)) 0) (first_of (block_refusals p)) _ _ refl

-- ---- the other structs

pub read_pair : (cell burst count user chip level : ℕ) → pair_in_c (pair_as_c (pair_answer cell burst count user chip level)) ≡ pair_answer cell burst count user chip level
unfolding pair_in_c pair_as_c pair_answer
read_pair cell burst count user chip level = back pair_as_c pair_in_c (λ m e. simp e) _ _ (λ _. refl)

-- no user has number 0, which stands for nobody
heard_back : (cell burst : ℕ) (row : List Float) (k : ℕ) → heard_in_c (heard_as_c (answered (heard_of cell burst row k))) ≡ answered (heard_of cell burst row k)
unfolding heard_in_c heard_as_c heard_of
heard_back cell burst row zero = refl
heard_back cell burst row (suc k) = ap (λ (z : Bool). answered (cond z nobody (heard_of cell burst row (suc k)))) (ne_eqb (suc k) 0 (λ e. absurd (omega arith)))

pub read_hear : (cell burst count : ℕ) (row : List Float) → heard_in_c (heard_as_c (hear_answer cell burst count row)) ≡ hear_answer cell burst count row
unfolding heard_in_c heard_as_c hear_answer
read_hear cell burst count row = back heard_as_c heard_in_c (λ m e. simp e) _ _ (λ _. heard_back cell burst row (who_is_heard cell burst count row))

pub read_parts : (burst direction factor tfci tpc : ℕ)
    → parts_in_c (parts_as_c (parts_answer_over_c burst direction factor tfci tpc)) ≡ parts_answer_over_c burst direction factor tfci tpc
unfolding parts_in_c parts_as_c parts_answer_over_c seven_parts part_lengths order spans zipped
read_parts burst direction factor tfci tpc = back parts_as_c parts_in_c (λ m e. simp e) _ _ (λ _. refl)

part_back : (p : Part) → get_or order (part_number p - 1) GUARD ≡ p
unfolding order part_number
part_back DATA1 = refl
part_back TFCI1 = refl
part_back MIDAMBLE = refl
part_back TPC = refl
part_back TFCI2 = refl
part_back DATA2 = refl
part_back GUARD = refl

place_back : (a : Part × ℕ) → place_in_c (place_as_c (answered a)) ≡ answered a
unfolding place_in_c place_as_c
place_back a = ap (λ (p : Part). answered (p, a.1)) (part_back a.0)

pub read_at : (burst direction factor tfci tpc chip : ℕ)
    → place_in_c (place_as_c (at_answer_over_c burst direction factor tfci tpc chip)) ≡ at_answer_over_c burst direction factor tfci tpc chip
unfolding place_in_c place_as_c at_answer_over_c
read_at burst direction factor tfci tpc chip = back place_as_c place_in_c (λ m e. simp e) _ _ (λ _. place_back _)

pub read_indicator : (burst length frames number : ℕ) → indicator_in_c (indicator_as_c (indicator_answer burst length frames number)) ≡ indicator_answer burst length frames number
unfolding indicator_in_c indicator_as_c indicator_answer place_of
read_indicator burst length frames number = back indicator_as_c indicator_in_c (λ m e. simp e) _ _ (λ _. refl)

owner_back : (o : Owner) → owner_in_c (owner_as_c (answered o)) ≡ answered o
unfolding owner_in_c owner_as_c
owner_back reserved = refl
owner_back (owned q) = refl

pub read_owner : (burst length bit : ℕ) → owner_in_c (owner_as_c (owner_answer burst length bit)) ≡ owner_answer burst length bit
unfolding owner_in_c owner_as_c owner_answer
read_owner burst length bit = back owner_as_c owner_in_c (λ m e. simp e) _ _ (λ _. owner_back _)

-- the case is 1 or 2 where it was not refused
beacons_back : (one two : Bool) (k : ℕ) (l : List ℕ) → l ≡ cond one (k ∷ []) (cond two (k ∷ (k + 8) ∷ []) []) → beacons_in_c (beacons_as_c (answered l)) ≡ answered l
unfolding beacons_in_c beacons_as_c
beacons_back true two k l e = rw e
beacons_back false true k l e = rw e
beacons_back false false k l e = rw e

pub read_beacon : (case k : ℕ) → beacons_in_c (beacons_as_c (beacon_answer case k)) ≡ beacon_answer case k
unfolding beacons_in_c beacons_as_c beacon_answer beacons_of
read_beacon case k = back beacons_as_c beacons_in_c (λ m e. simp e) _ _ (λ _. beacons_back (eqb case 1) (eqb case 2) k _ refl)

-- ---- a summary

way_back : (w : Option Direction) → way_of (way_number w) ≡ w
unfolding way_of way_number
way_back (Some Up) = refl
way_back (Some Down) = refl
way_back None = refl

glance_back : (g : Glance) → summary_in_c (summary_as_c (answered g)) ≡ answered g
unfolding summary_in_c summary_as_c
glance_back g = ap (λ (w : Option Direction). answered (record { leaves = g.leaves; way = w; count = g.count })) (way_back g.way)

pub read_summary : (b : Book) (seat timeslot : ℕ) → summary_in_c (summary_as_c (summary_answer b seat timeslot)) ≡ summary_answer b seat timeslot
unfolding summary_answer summary_in_c summary_as_c
read_summary b seat timeslot = back summary_as_c summary_in_c (λ m e. simp e) _ _ (λ _. glance_back _)

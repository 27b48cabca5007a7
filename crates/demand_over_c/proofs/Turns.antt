-- A whole lesson over C beside the lesson by value that it comes to: the same replies and the same
-- book, turn by turn, and the same lines left for a learner. Cited by DemandOverC. Assumes nothing.
use mathlib.Core.Path.{◌≡◌, refl, ap, ◌∙◌}
use mathlib.Core.Logic.{⊎_elim}
use mathlib.Core.Bool.{true, false, not, ◌&&◌}
use mathlib.Core.List.{List, [], ◌∷◌}
use Prim.Native.Nat.{ℕ}
use lib.Dec.{eqb}
use Rattle.laws.proofs.Lists.{by_cases}
use Rattle.classbook.specs.declared.Book.{Book}
use Rattle.demand.specs.Lesson.{Reply, reply, number_of, next, run_through, Line, log, turns}
use Rattle.demand.specs.Demand.{stays, kept}
use Rattle.mqarbset_book.specs.declared.MqBook.{MqBook}
use Rattle.mqarbset_book.specs.Mirror.{proper, read_book, write_book}
use Rattle.demand_over_c.specs.LessonOverC.{TurnOverC, ReplyOverC, reply_over_c, refusal_of}
use Rattle.demand_over_c.specs.LessonOverC.{next_over_c, run_over_c, LineOverC, log_over_c}
use Rattle.demand_over_c.specs.LessonOverC.{turns_over_c}
use Rattle.demand_over_c.specs.ByValue.{asked, asked_turn, asked_turns, lent_by, told, told_lines}
use Rattle.demand_over_c.specs.DemandOverC.{stays_over_c, kept_over_c}
use Rattle.demand_over_c.proofs.Step.{reads_next, proper_next, again_next, replies}
use Rattle.demand_over_c.proofs.Step.{same_refusal}

-- proper bytes stay proper
pub run_proper : (ts : List TurnOverC) (m : MqBook)
    → proper m ≡ true → proper (run_over_c m ts) ≡ true
unfolding run_over_c
run_proper [] m p = p
run_proper (t ∷ ts) m p = run_proper ts _ (proper_next m t.seat t.call p)

-- and bytes that come back when they are read and written again stay such
pub run_again : (ts : List TurnOverC) (m : MqBook) → write_book (read_book m) ≡ m
    → write_book (read_book (run_over_c m ts)) ≡ run_over_c m ts
unfolding run_over_c
run_again [] m e = e
run_again (t ∷ ts) m e = run_again ts _ (again_next m t.seat t.call e)

-- the bytes m say the book b
module _ (m : MqBook) (b : Book) (says : read_book m ≡ b) (t : TurnOverC) where
  -- and after a turn the book that the turn by value leaves
  abbrev m' : MqBook
  m' = next_over_c m t.seat t.call

  abbrev b' : Book
  b' = next b t.seat (asked t.call)

  -- with the replies over C and by value
  abbrev reply_c : ReplyOverC
  reply_c = reply_over_c m t.seat t.call

  abbrev reply_v : Reply
  reply_v = reply b t.seat (asked t.call)

  turn_says : read_book m' ≡ b'
  turn_says =
      reads_next m t.seat t.call
      ∙ ap (λ (c : Book). next c t.seat (asked t.call)) says

  turn_replies : reply_c ≡ told (lent_by t.call) reply_v
  turn_replies =
      replies m t.seat t.call
      ∙ ap (λ (c : Book). told (lent_by t.call) (reply c t.seat (asked t.call))) says

  turn_refusal : refusal_of reply_c ≡ number_of reply_v
  turn_refusal =
      same_refusal m t.seat t.call
      ∙ ap (λ (c : Book). number_of (reply c t.seat (asked t.call))) says

  -- and the line of the log
  turn_line : (ls us : List LineOverC) → ls ≡ us
      → record { turn = t; reply = reply_c } ∷ ls
      ≡ record { turn = t; reply = told (lent_by t.call) reply_v } ∷ us
  turn_line ls us e =
      ap (λ (r : ReplyOverC). record { turn = t; reply = r } ∷ ls) turn_replies
      ∙ ap (λ (l : List LineOverC). record { turn = t; reply = told (lent_by t.call) reply_v } ∷ l) e

-- the book that the bytes say after a lesson is that of the lesson by value
pub run_says : (ts : List TurnOverC) (m : MqBook) (b : Book) → read_book m ≡ b
    → read_book (run_over_c m ts) ≡ run_through b (asked_turns ts)
unfolding run_over_c run_through asked_turns asked_turn
run_says [] m b e = e
run_says (t ∷ ts) m b e = run_says ts (m' m b e t) (b' m b e t) (turn_says m b e t)

-- and each reply is that of the lesson by value
pub log_told : (ts : List TurnOverC) (m : MqBook) (b : Book) → read_book m ≡ b
    → log_over_c m ts ≡ told_lines ts (log b (asked_turns ts))
unfolding log_over_c log told_lines asked_turns asked_turn
log_told [] m b e = refl
log_told (t ∷ ts) m b e =
    turn_line m b e t _ _ (log_told ts (m' m b e t) (b' m b e t) (turn_says m b e t))

-- ---- what is left of a log for learner i
module _ (i : ℕ) where
  abbrev left_c : MqBook → List TurnOverC → List LineOverC
  left_c m ts = kept_over_c i (log_over_c m ts)

  abbrev left_v : Book → List TurnOverC → List Line
  left_v b ts = kept i (log b (asked_turns ts))

  -- is the same turns, with the same replies
  pub record Left (m : MqBook) (b : Book) (ts : List TurnOverC) : Type 0 where
    pub same_turns : asked_turns (turns_over_c (left_c m ts)) ≡ turns (left_v b ts)
    pub same_lines : left_c m ts ≡ told_lines (turns_over_c (left_c m ts)) (left_v b ts)

  module _ (m : MqBook) (b : Book) (e : read_book m ≡ b) (t : TurnOverC) (ts : List TurnOverC) where
    abbrev line_c : LineOverC
    line_c = record { turn = t; reply = reply_c m b e t }

    abbrev line_v : Line
    line_v = record { turn = asked_turn t; reply = reply_v m b e t }

    -- what is left of the later turns
    abbrev later_c : List LineOverC
    later_c = left_c (m' m b e t) ts

    abbrev later_v : List Line
    later_v = left_v (b' m b e t) ts

    same_stays : stays_over_c i line_c ≡ stays i line_v
    unfolding stays_over_c stays asked_turn
    same_stays = ap (λ (n : ℕ). eqb t.seat i && not (eqb n 20)) (turn_refusal m b e t)

    strikes : stays i line_v ≡ false → Left (m' m b e t) (b' m b e t) ts → Left m b (t ∷ ts)
    unfolding log_over_c log asked_turns asked_turn turns turns_over_c kept kept_over_c told_lines
    strikes f r =
        record {
          same_turns = rw (same_stays, f) r.same_turns;
          same_lines = rw (same_stays, f) r.same_lines;
        }

    keeps : stays i line_v ≡ true → Left (m' m b e t) (b' m b e t) ts → Left m b (t ∷ ts)
    unfolding log_over_c log asked_turns asked_turn turns turns_over_c kept kept_over_c told_lines
    keeps f r =
        record {
          same_turns = rw (same_stays, f, r.same_turns) refl;
          same_lines = rw (same_stays, f) lines;
        }
      where
        lines : line_c ∷ later_c ≡ told_lines (t ∷ turns_over_c later_c) (line_v ∷ later_v)
        lines = turn_line m b e t _ _ r.same_lines

  pub left_told : (ts : List TurnOverC) (m : MqBook) (b : Book) → read_book m ≡ b → Left m b ts
  unfolding log_over_c log asked_turns turns turns_over_c kept kept_over_c told_lines
  left_told [] m b e = record { same_turns = refl; same_lines = refl }
  left_told (t ∷ ts) m b e =
      let r = left_told ts (m' m b e t) (b' m b e t) (turn_says m b e t) in
      ⊎_elim
      (λ f. keeps m b e t ts f r)
      (λ f. strikes m b e t ts f r)
      (by_cases (stays i (line_v m b e t ts)))

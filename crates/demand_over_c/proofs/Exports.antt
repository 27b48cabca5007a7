-- The turns of a lesson over C are the library's exports: whatever an export hands back under its
-- promise is what specs/LessonOverC.antt says of its turn. `Post` is what Rattle reads of the
-- export's own clauses, so that a promise that said less would fail here. Cited by docs/.
-- Assumes nothing.
use mathlib.Core.Path.{◌≡◌, ap}
use Prim.Native.Nat.{ℕ}
use Rattle.mqarbset.proofs.book.mq_empty_book.Reads as empty
use Rattle.mqarbset.proofs.book.mq_open_value.Reads as open-value
use Rattle.mqarbset.proofs.book.mq_book_value.Reads as book-value
use Rattle.mqarbset.proofs.book.mq_cancel_value.Reads as cancel-value
use Rattle.mqarbset.proofs.book.mq_close_value.Reads as close-value
use Rattle.mqarbset.proofs.book.mq_list_bytes.Reads as list-bytes
use Rattle.mqarbset.proofs.book.mq_summary_value.Reads as summary-value
use Rattle.mqarbset_book.specs.declared.MqBook.{MqBook}
use Rattle.mqarbset_book.specs.declared.MqBookAnswer.{MqBookAnswer}
use Rattle.demand_over_c.specs.LessonOverC.{CallOverC, opens, books, cancels, closes, lists}
use Rattle.demand_over_c.specs.LessonOverC.{glances, number, listed, summed, reply_over_c}
use Rattle.demand_over_c.specs.LessonOverC.{next_over_c, empty_bytes}

-- the lesson starts on what mq_empty_book hands out
pub start_is_empty : (κs : _) (a : _) (r : _) (s : _) → empty.Post κs a r s → r ≡ empty_bytes
start_is_empty κs a r s p = p

module _ (m : MqBook) (seat : ℕ) where
  -- what an export hands back is the reply to a call, and the bytes afterwards
  abbrev IsTurn : CallOverC → MqBookAnswer → Type 0
  IsTurn c r = (number r.refusal ≡ reply_over_c m seat c) × (r.book ≡ next_over_c m seat c)

  abbrev both : (a r : MqBookAnswer) → r ≡ a
      → (number r.refusal ≡ number a.refusal) × (r.book ≡ a.book)
  both a r p =
      (ap (λ (x : MqBookAnswer). number x.refusal) p, ap (λ (x : MqBookAnswer). x.book) p)

  pub open_is_turn : (cell case k long short : ℕ) (κs : _) (r : _) (s : _)
      → open-value.Post κs (m, (seat, (cell, (case, (k, (long, (short, tt))))))) r s
      → IsTurn (opens cell case k long short) r
  unfolding reply_over_c next_over_c
  open_is_turn cell case k long short κs r s p = both _ r p

  pub book_is_turn : (timeslot direction burst factor index user tfci tpc : ℕ)
      → (κs : _) (r : _) (s : _)
      → book-value.Post κs
      (m, (seat, (timeslot, (direction, (burst, (factor, (index, (user, (tfci, (tpc, tt)))))))))) r s
      → IsTurn (books timeslot direction burst factor index user tfci tpc) r
  unfolding reply_over_c next_over_c
  book_is_turn timeslot direction burst factor index user tfci tpc κs r s p = both _ r p

  pub cancel_is_turn : (timeslot factor index : ℕ) (κs : _) (r : _) (s : _)
      → cancel-value.Post κs (m, (seat, (timeslot, (factor, (index, tt))))) r s
      → IsTurn (cancels timeslot factor index) r
  unfolding reply_over_c next_over_c
  cancel_is_turn timeslot factor index κs r s p = both _ r p

  pub close_is_turn : (κs : _) (r : _) (s : _)
      → close-value.Post κs (m, (seat, tt)) r s → IsTurn closes r
  unfolding reply_over_c next_over_c
  close_is_turn κs r s p = both _ r p

-- of a list the struct and the lent bytes afterwards; the book is not handed back
pub list_is_turn : (κs : _) (a : _) (r : _) (s : _) → list-bytes.Post κs a r s
    → listed (r, s.1.1.0.now) ≡ reply_over_c a.0 a.1.0 (lists a.1.1.0.now)
unfolding reply_over_c
list_is_turn κs a r s p = ap listed p

-- and of a summary the struct
pub summary_is_turn : (m : MqBook) (seat timeslot : ℕ) (κs : _) (r : _) (s : _)
    → summary-value.Post κs (m, (seat, (timeslot, tt))) r s
    → summed r ≡ reply_over_c m seat (glances timeslot)
unfolding reply_over_c
summary_is_turn m seat timeslot κs r s p = ap summed p

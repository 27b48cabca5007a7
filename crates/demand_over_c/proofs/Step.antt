-- One call over C on any bytes: what they say afterwards is the book that the call by value leaves,
-- proper bytes stay proper, bytes that come back when they are read and written again stay such, a
-- refused call leaves every byte, and the reply is that of the call by value. Cited by Turns,
-- Untouched and DemandOverC. Assumes nothing.
use mathlib.Core.Path.{◌≡◌, refl, sym, ap, ◌∙◌}
use mathlib.Core.Logic.{⊎_elim}
use mathlib.Core.Bool.{Bool, true, false, cond}
use mathlib.Core.List.{List, ◌∷◌, ◌++◌}
use Prim.Native.Nat.{ℕ, ◌*◌}
use lib.Dec.{eqb}
use lib.ListN.{length, drop}
use lib.Seq.{take-append_seam}
use borrow.Author.Tests.{eqb-true, eqb-false}
use Rattle.laws.proofs.Lists.{by_cases}
use Rattle.refusals.specs.Refusals.{Answer, refused, answered, ◌leaving◌, first_of, answer, after}
use Rattle.refusals.proofs.First.{after_refused, after_answered}
use Rattle.conditions.specs.Conditions.{too_short}
use Rattle.bookings.specs.declared.Booking.{Booking}
use Rattle.seats.specs.Seats.{bookings}
use Rattle.classbook.specs.declared.Book.{Book}
use Rattle.classbook.specs.Book.{seat_of}
use Rattle.classbook.specs.Calls.{with_book, open_answer, book_answer, cancel_answer, seat_refusals}
use Rattle.classbook.specs.Calls.{close_answer}
use Rattle.listing.specs.Listing.{few_records, list_refusals, list_outcome}
use Rattle.demand.specs.Lesson.{Reply, reply, number_of, next}
use Rattle.demand.specs.Lesson as value
use Rattle.mqarbset_answers.specs.Answers.{answer_as_c, outcome_as_c}
use Rattle.mqarbset_answers.specs.Summaries.{summary_as_c}
use Rattle.mqarbset_book.specs.declared.MqBook.{MqBook}
use Rattle.mqarbset_book.specs.declared.MqBookAnswer.{MqBookAnswer}
use Rattle.mqarbset_book.specs.Mirror.{proper, read_book, write_book}
use Rattle.mqarbset_book.specs.Calls.{handed_back, book_answer_over_c}
use Rattle.mqarbset_book.proofs.Kept.{written_proper, kept}
use Rattle.mqarbset_book.proofs.Neither.{request, book_over}
use Rattle.mqarbset_list.specs.Records.{records_of, records_refusals, records_outcome}
use Rattle.demand_over_c.specs.LessonOverC.{CallOverC, opens, books, cancels, closes, lists}
use Rattle.demand_over_c.specs.LessonOverC.{glances, book_over_c, ReplyOverC, number, listed}
use Rattle.demand_over_c.specs.LessonOverC.{reply_over_c, refusal_of, next_over_c}
use Rattle.demand_over_c.specs.ByValue.{records_lent, asked, lent_by, told}

-- ---- what is handed back for the bytes m: n is the first refusal's number, made what the call made
module _ (m : MqBook) (n : ℕ) (made : Book) where
  abbrev back : MqBookAnswer
  back = handed_back m (with_book n (read_book m) made)

  back_refused : (n ≡ 0 → ⊥) → back.book ≡ m
  unfolding handed_back
  back_refused h = after_refused n m _ h

  back_made : n ≡ 0 → back.book ≡ write_book made
  unfolding handed_back
  back_made z =
      after_answered n m _ z ∙ ap write_book (after_answered n (read_book m) made z)

  back_reads : read_book back.book ≡ after n (read_book m) made
  back_reads =
      ⊎_elim
      (λ t. answered_so (eqb-true n 0 t))
      (λ f. refused_so (eqb-false n 0 f))
      (by_cases (eqb n 0))
    where
      answered_so : n ≡ 0 → read_book back.book ≡ after n (read_book m) made
      answered_so z =
          ap read_book (back_made z) ∙ kept made ∙ sym (after_answered n (read_book m) made z)

      refused_so : (n ≡ 0 → ⊥) → read_book back.book ≡ after n (read_book m) made
      refused_so h = ap read_book (back_refused h) ∙ sym (after_refused n (read_book m) made h)

  back_proper : proper m ≡ true → proper back.book ≡ true
  back_proper p =
      ⊎_elim
      (λ t. ap proper (back_made (eqb-true n 0 t)) ∙ written_proper made)
      (λ f. ap proper (back_refused (eqb-false n 0 f)) ∙ p)
      (by_cases (eqb n 0))

  back_again : write_book (read_book m) ≡ m → write_book (read_book back.book) ≡ back.book
  back_again e =
      ⊎_elim
      (λ t. answered_so (back_made (eqb-true n 0 t)))
      (λ f. refused_so (back_refused (eqb-false n 0 f)))
      (by_cases (eqb n 0))
    where
      answered_so : back.book ≡ write_book made → write_book (read_book back.book) ≡ back.book
      answered_so h =
          ap (λ (r : MqBook). write_book (read_book r)) h ∙ ap write_book (kept made) ∙ sym h

      refused_so : back.book ≡ m → write_book (read_book back.book) ≡ back.book
      refused_so h = ap (λ (r : MqBook). write_book (read_book r)) h ∙ e ∙ sym h

-- ---- a list, of the book that the bytes say
module _ (b : Book) (i : ℕ) (lent : List ℕ) where
  abbrev l : List Booking
  l = bookings (seat_of b i)

  abbrev few : ℕ
  few = first_of (list_refusals b i (records_lent lent))

  abbrev leaving_c : Answer ℕ → List ℕ → ReplyOverC
  leaving_c a out = listed (outcome_as_c (a leaving out))

  abbrev written : List Booking → List ℕ
  written r = records_of r ++ drop (8 * length l) lent

  room_same : (short : Bool) → too_short 320 lent ≡ short
      → few_records (records_lent lent) ≡ too_short 320 lent
  unfolding few_records records_lent
  room_same true e = simp e
  room_same false e = simp e

  list_refusal : few ≡ first_of (records_refusals b i lent)
  unfolding list_refusals records_refusals
  list_refusal =
      ap (λ (short : Bool). first_of ((11, short) ∷ seat_refusals b i))
      (room_same (too_short 320 lent) refl)

  -- an answer and what it leaves, over C and by value; none is whether there was no refusal
  by_test : (none : Bool) (n : ℕ) (records : List Booking)
      → let a = cond none (answered (length l)) (refused n) in
      leaving_c a (cond none (written l) lent)
      ≡ told lent (value.listed (a leaving cond none (l ++ drop (length l) records) records))
  unfolding told
  by_test true n records =
      ap (λ (r : List Booking). leaving_c (answered (length l)) (written r))
      (sym (take-append_seam l (drop (length l) records)))
  by_test false n records = refl

  list_told : listed (outcome_as_c (records_outcome b i lent))
      ≡ told lent (value.listed (list_outcome b i (records_lent lent)))
  unfolding records_outcome list_outcome answer after
  list_told =
      ap (λ (n : ℕ). leaving_c (answer n (length l)) (after n lent (written l))) (sym list_refusal)
      ∙ by_test (eqb few 0) few (records_lent lent)

-- ---- each call
module _ (m : MqBook) (i : ℕ) where
  -- a booking over C hands back what the booking by value does
  book_back : (timeslot direction burst factor index user tfci tpc : ℕ)
      → let x = request timeslot direction burst factor index user tfci tpc in
      book_over_c m i timeslot direction burst factor index user tfci tpc
      ≡ handed_back m (book_answer (read_book m) i x)
  book_back timeslot direction burst factor index user tfci tpc =
      sym (book_over m (read_book m) i timeslot direction burst factor index user tfci tpc)

  -- the bytes afterwards say the book that the call by value leaves
  pub reads_next : (c : CallOverC) → read_book (next_over_c m i c) ≡ next (read_book m) i (asked c)
  unfolding next_over_c next asked open_answer book_answer cancel_answer close_answer
  reads_next (opens cell case k long short) = back_reads m _ _
  reads_next (books timeslot direction burst factor index user tfci tpc) =
      ap (λ (r : MqBookAnswer). read_book r.book)
      (book_back timeslot direction burst factor index user tfci tpc)
      ∙ back_reads m _ _
  reads_next (cancels timeslot factor index) = back_reads m _ _
  reads_next closes = back_reads m _ _
  reads_next (lists lent) = refl
  reads_next (glances timeslot) = refl

  -- proper bytes stay proper
  pub proper_next : (c : CallOverC) → proper m ≡ true → proper (next_over_c m i c) ≡ true
  unfolding next_over_c open_answer book_answer_over_c cancel_answer close_answer
  proper_next (opens cell case k long short) p = back_proper m _ _ p
  proper_next (books timeslot direction burst factor index user tfci tpc) p = back_proper m _ _ p
  proper_next (cancels timeslot factor index) p = back_proper m _ _ p
  proper_next closes p = back_proper m _ _ p
  proper_next (lists lent) p = p
  proper_next (glances timeslot) p = p

  -- bytes that come back when they are read and written again stay such
  pub again_next : (c : CallOverC) → write_book (read_book m) ≡ m
      → write_book (read_book (next_over_c m i c)) ≡ next_over_c m i c
  unfolding next_over_c open_answer book_answer_over_c cancel_answer close_answer
  again_next (opens cell case k long short) e = back_again m _ _ e
  again_next (books timeslot direction burst factor index user tfci tpc) e = back_again m _ _ e
  again_next (cancels timeslot factor index) e = back_again m _ _ e
  again_next closes e = back_again m _ _ e
  again_next (lists lent) e = e
  again_next (glances timeslot) e = e

  -- a refused call leaves every byte
  pub refused_leaves : (c : CallOverC)
      → (refusal_of (reply_over_c m i c) ≡ 0 → ⊥) → next_over_c m i c ≡ m
  unfolding reply_over_c refusal_of next_over_c handed_back open_answer book_answer_over_c cancel_answer close_answer
  refused_leaves (opens cell case k long short) h = back_refused m _ _ h
  refused_leaves (books timeslot direction burst factor index user tfci tpc) h =
      back_refused m _ _ h
  refused_leaves (cancels timeslot factor index) h = back_refused m _ _ h
  refused_leaves closes h = back_refused m _ _ h
  refused_leaves (lists lent) h = refl
  refused_leaves (glances timeslot) h = refl

  -- the reply is that of the call by value
  pub replies : (c : CallOverC)
      → reply_over_c m i c ≡ told (lent_by c) (reply (read_book m) i (asked c))
  unfolding reply_over_c told lent_by reply asked handed_back open_answer book_answer cancel_answer close_answer
  replies (opens cell case k long short) = refl
  replies (books timeslot direction burst factor index user tfci tpc) =
      ap (λ (r : MqBookAnswer). number r.refusal)
      (book_back timeslot direction burst factor index user tfci tpc)
  replies (cancels timeslot factor index) = refl
  replies closes = refl
  replies (lists lent) = list_told (read_book m) i lent
  replies (glances timeslot) = refl

  -- in particular its number is
  told_number : (lent : List ℕ) (r : Reply) → refusal_of (told lent r) ≡ number_of r
  unfolding told refusal_of number_of outcome_as_c answer_as_c summary_as_c
  told_number lent (value.number n) = refl
  told_number lent (value.listed (refused n leaving records)) = refl
  told_number lent (value.listed (answered n leaving records)) = refl
  told_number lent (value.summed (refused n)) = refl
  told_number lent (value.summed (answered g)) = refl

  pub same_refusal : (c : CallOverC)
      → refusal_of (reply_over_c m i c) ≡ number_of (reply (read_book m) i (asked c))
  same_refusal c =
      ap refusal_of (replies c) ∙ told_number (lent_by c) (reply (read_book m) i (asked c))

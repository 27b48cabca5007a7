-- Demand 3 (d): what a learner sees does not hang on the others, but for refusal 20. Two books are compared turn by turn: that of the whole lesson, and that
-- of the learner's own turns. Cited by Demand3. Assumes nothing.
use mathlib.Core.Path.{◌≡◌, refl, sym, ap, ◌∙◌}
use mathlib.Core.Logic.{⊎_elim}
use mathlib.Core.Bool.{Bool, true, false, not, ◌&&◌, and-false}
use mathlib.Core.List.{List, [], ◌∷◌}
use Prim.Native.Nat.{ℕ}
use native.Mathlib.Omega.{arith}
use lib.Dec.{eqb}
use borrow.Author.Tests.{eqb-true, eqb-false, ne_eqb}
use Rattle.laws.proofs.Lists.{by_cases}
use Rattle.refusals.specs.Refusals.{first_of, after}
use Rattle.refusals.proofs.First.{after_refused, after_answered}
use Rattle.seats.specs.declared.Seat.{Seat}
use Rattle.seats.specs.Seats.{closed}
use Rattle.classbook.specs.declared.Book.{Book}
use Rattle.classbook.specs.Book.{empty_book, seat_of, with_seat, beyond, common}
use Rattle.classbook.specs.Conditions.{bad_book, room_used_up}
use Rattle.demand.specs.Lesson.{Call, Turn, reply, number_of, next, run_through, Line, log, turns}
use Rattle.demand.specs.Demand.{stays, kept}
use Rattle.demand.proofs.Seats.{replicate_at, set_alike, total_one}
use Rattle.demand.proofs.Own.{table, number_own, told, reply_own, made, next_own}
use Rattle.demand.proofs.Books.{Good, empty_good, next_good, next_apart}
use Rattle.demand.proofs.Refused.{room_only_20}

pub not_bad : (b : Book) → Good b → bad_book b ≡ false
unfolding bad_book
not_bad b g = ap not g.ok

neither : (p q : Bool) → p ≡ false → (p && q) ≡ false
neither p q e = ap (λ (r : Bool). r && q) e

module _ (i : ℕ) where
  -- a book in which nobody but i has a seat: its common room is never used up, since one seat holds at most 30 beyond its ten
  abbrev Quiet : Book → Type 0
  Quiet a = (j : ℕ) → (j ≡ i → ⊥) → seat_of a j ≡ closed

  quiet_room : (a : Book) (s : Seat) → Quiet a → room_used_up a s ≡ false
  unfolding room_used_up common seat_of closed
  quiet_room a s q = simp (ne_eqb (common a) 80 apart, and-false)
    where
      none : (j : ℕ) → (j ≡ i → ⊥) → beyond (seat_of a j) ≡ 0
      none j n = ap (λ (t : Seat). beyond t) (q j n)

      apart : common a ≡ 80 → ⊥
      apart e = omega (arith, e, total_one (λ (t : Seat). beyond t) a.seats i closed none)

  -- the lesson's book b, and the book a of i's own turns
  record Beside (b a : Book) : Type 0 where
    pub crowd : Good b
    pub lone : Good a
    pub same : seat_of a i ≡ seat_of b i
    pub quiet : Quiet a

  -- ---- i's own call, where it is not refused 20, gets the same reply from both and leaves the same seat in both
  module _ (b a : Book) (h : Beside b a) (c : Call) (no-20 : number_of (reply b i c) ≡ 20 → ⊥) where
    same_number : number_of (reply a i c) ≡ number_of (reply b i c)
    same_number = of_a ∙ sym (of_b ∙ room_only_20 false (room_used_up b (seat_of b i)) (seat_of b i) i c (λ e. no-20 (of_b ∙ e)))
      where
        of_b : number_of (reply b i c) ≡ first_of (table false (room_used_up b (seat_of b i)) (seat_of b i) i c)
        of_b = number_own b i c ∙ ap (λ (bad : Bool). first_of (table bad (room_used_up b (seat_of b i)) (seat_of b i) i c)) (not_bad b h.crowd)

        of_a : number_of (reply a i c) ≡ first_of (table false false (seat_of b i) i c)
        of_a =
            number_own a i c
            ∙ ap (λ (bad : Bool). first_of (table bad (room_used_up a (seat_of a i)) (seat_of a i) i c)) (not_bad a h.lone)
            ∙ ap (λ (full : Bool). first_of (table false full (seat_of a i) i c)) (quiet_room a (seat_of a i) h.quiet)
            ∙ ap (λ (s : Seat). first_of (table false false s i c)) h.same

    same_reply : reply a i c ≡ reply b i c
    same_reply =
        reply_own a i c ∙ ap (λ (n : ℕ). told n (seat_of a i) c) same_number
        ∙ ap (λ (s : Seat). told (number_of (reply b i c)) s c) h.same ∙ sym (reply_own b i c)

    same_seat : seat_of (next a i c) i ≡ seat_of (next b i c) i
    unfolding seat_of with_seat
    same_seat =
        ap (λ (d : Book). seat_of d i) of_a ∙ both (number_of (reply b i c)) (made (seat_of b i) c) ∙ sym (ap (λ (d : Book). seat_of d i) (next_own b i c))
      where
        of_a : next a i c ≡ after (number_of (reply b i c)) a (with_seat a i (made (seat_of b i) c))
        of_a =
            next_own a i c
            ∙ ap (λ (n : ℕ). after n a (with_seat a i (made (seat_of a i) c))) same_number
            ∙ ap (λ (s : Seat). after (number_of (reply b i c)) a (with_seat a i (made s c))) h.same

        both : (n : ℕ) (s : Seat) → seat_of (after n a (with_seat a i s)) i ≡ seat_of (after n b (with_seat b i s)) i
        both n s =
            ⊎_elim
            (λ t. ap (λ (d : Book). seat_of d i) (after_answered n a (with_seat a i s) (eqb-true n 0 t))
            ∙ set_alike a.seats b.seats i s closed (h.lone.sixteen ∙ sym h.crowd.sixteen)
            ∙ sym (ap (λ (d : Book). seat_of d i) (after_answered n b (with_seat b i s) (eqb-true n 0 t))))
            (λ f. ap (λ (d : Book). seat_of d i) (after_refused n a (with_seat a i s) (eqb-false n 0 f)) ∙ h.same
            ∙ sym (ap (λ (d : Book). seat_of d i) (after_refused n b (with_seat b i s) (eqb-false n 0 f))))
            (by_cases (eqb n 0))

    own_turn : Beside (next b i c) (next a i c)
    own_turn =
        record {
          crowd = next_good b i c h.crowd;
          lone = next_good a i c h.lone;
          same = same_seat;
          quiet = λ j n. next_apart a i c j n ∙ h.quiet j n;
        }

  -- ---- a turn that is left out, another's or i's own that was refused 20, leaves i's seat
  left_out : (b a : Book) (j : ℕ) (c : Call) → Beside b a → seat_of (next b j c) i ≡ seat_of b i → Beside (next b j c) a
  left_out b a j c h e = record { crowd = next_good b j c h.crowd; lone = h.lone; same = h.same ∙ sym e; quiet = h.quiet }

  others_turn : (b : Book) (j : ℕ) (c : Call) → (j ≡ i → ⊥) → seat_of (next b j c) i ≡ seat_of b i
  others_turn b j c n = next_apart b j c i (λ e. n (sym e))

  refused_turn : (b : Book) (j : ℕ) (c : Call) → number_of (reply b j c) ≡ 20 → seat_of (next b j c) i ≡ seat_of b i
  refused_turn b j c e =
      ap (λ (d : Book). seat_of d i) (next_own b j c ∙ after_refused (number_of (reply b j c)) b (with_seat b j (made (seat_of b j) c)) not_0)
    where
      not_0 : number_of (reply b j c) ≡ 0 → ⊥
      not_0 z = omega (arith, e, z)

  -- ---- all turns
  pub record Same (b a : Book) (ts : List Turn) : Type 0 where
    pub answers : log a (turns (kept i (log b ts))) ≡ kept i (log b ts)
    pub seat : seat_of (run_through a (turns (kept i (log b ts)))) i ≡ seat_of (run_through b ts) i

  abbrev line : Book → Turn → Line
  line b t = record { turn = t; reply = reply b t.seat t.call }

  -- which lines stay: not those of others, not those refused 20, and every other one
  module _ (b : Book) (t : Turn) where
    abbrev said : ℕ
    said = number_of (reply b t.seat t.call)

    not_own : eqb t.seat i ≡ false → stays i (line b t) ≡ false
    unfolding stays
    not_own e = neither (eqb t.seat i) _ e

    own_refused_20 : eqb t.seat i ≡ true → eqb said 20 ≡ true → stays i (line b t) ≡ false
    unfolding stays
    own_refused_20 e f = ap (λ (own : Bool). own && not (eqb said 20)) e ∙ ap not f

    own_stays : eqb t.seat i ≡ true → eqb said 20 ≡ false → stays i (line b t) ≡ true
    unfolding stays
    own_stays e f = ap (λ (own : Bool). own && not (eqb said 20)) e ∙ ap not f

  module _ (b a : Book) (t : Turn) (ts : List Turn) where
    strikes : stays i (line b t) ≡ false → Same (next b t.seat t.call) a ts → Same b a (t ∷ ts)
    unfolding run_through log turns kept
    strikes f r = record { answers = rw f r.answers; seat = rw f r.seat }

    keeps : stays i (line b t) ≡ true → reply a t.seat t.call ≡ reply b t.seat t.call → Same (next b t.seat t.call) (next a t.seat t.call) ts
        → Same b a (t ∷ ts)
    unfolding run_through log turns kept
    keeps f e r = record { answers = rw (f, e, r.answers); seat = rw f r.seat }

    -- one turn, from what holds of the later ones
    first_turn : ((b a : Book) → Beside b a → Same b a ts) → Beside b a → Same b a (t ∷ ts)
    first_turn later h = ⊎_elim mine others (by_cases (eqb t.seat i))
      where
        others : eqb t.seat i ≡ false → Same b a (t ∷ ts)
        others e = strikes (not_own b t e) (later _ a (left_out b a t.seat t.call h (others_turn b t.seat t.call (eqb-false t.seat i e))))

        mine : eqb t.seat i ≡ true → Same b a (t ∷ ts)
        mine e = ⊎_elim struck stayed (by_cases (eqb (number_of (reply b t.seat t.call)) 20))
          where
            at_i : t.seat ≡ i
            at_i = eqb-true t.seat i e

            struck : eqb (number_of (reply b t.seat t.call)) 20 ≡ true → Same b a (t ∷ ts)
            struck f = strikes (own_refused_20 b t e f) (later _ a (left_out b a t.seat t.call h (refused_turn b t.seat t.call (eqb-true _ 20 f))))

            stayed : eqb (number_of (reply b t.seat t.call)) 20 ≡ false → Same b a (t ∷ ts)
            stayed f =
                let no-20 : number_of (reply b i t.call) ≡ 20 → ⊥ = rw at_i at (eqb-false (number_of (reply b t.seat t.call)) 20 f) in
                keeps (own_stays b t e f) (rw at_i (same_reply b a h t.call no-20)) (later _ _ (rw at_i (own_turn b a h t.call no-20)))

  alone : (ts : List Turn) (b a : Book) → Beside b a → Same b a ts
  unfolding run_through log turns kept
  alone [] b a h = record { answers = refl; seat = h.same }
  alone (t ∷ ts) b a h = first_turn b a t ts (alone ts) h

  -- from the empty book
  empty_beside : Beside empty_book empty_book
  unfolding empty_book seat_of
  empty_beside = record { crowd = empty_good; lone = empty_good; same = refl; quiet = λ j n. replicate_at 16 j closed }

  pub alone_from_empty : (ts : List Turn) → Same empty_book empty_book ts
  alone_from_empty ts = alone ts empty_book empty_book empty_beside

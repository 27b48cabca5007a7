-- A seat with a given plan: what it holds, when it meets its conditions, and that a booking carried into a row or out of it makes such a seat.
-- Cited by Kept, by Cancelled and by the crate classbook. Assumes nothing.
use mathlib.Core.Path.{◌≡◌, refl, sym, ap, ◌∙◌}
use mathlib.Core.Bool.{true, not, or-true}
use mathlib.Core.List.{List, [], ◌∷◌, ◌++◌}
use Prim.Native.Nat.{ℕ, ◌+◌, ◌-◌, ◌≤◌, ◌<◌, min}
use native.Mathlib.Omega.{arith}
use lib.Dec.{eqb}
use lib.ListN.{length, take, drop, set, get_or, replicate, length-drop, take-append-drop}
use lib.Seq.{take_at, drop_at, length-take-le, get_or-take}
use borrow.Author.Tests.{eqb-true}
use Rattle.laws.specs.Lists.{every, pairs, insert_at, remove_at}
use Rattle.laws.proofs.Bools.{true_false, and_true}
use Rattle.laws.proofs.Lists.{every_at, every_weaker, every_remove}
use Rattle.laws.proofs.Rows.{count_le}
use Rattle.laws.proofs.Places.{every_replicate, every_same, length-insert, length_remove, filled_length, filled_insert, filled_remove}
use Rattle.conditions.specs.declared.Direction.{Direction}
use Rattle.conditions.specs.declared.Direction.TheVariants.{Up, Down}
use Rattle.conditions.specs.Conditions.{is_down}
use Rattle.bookings.specs.declared.Booking.{Booking}
use Rattle.slots.specs.declared.Slot.{Slot}
use Rattle.slots.specs.Slots.{is_in, count_in, slot_of, summary_of}
use Rattle.slots.specs.Inside.{no_slot, joined_with}
use Rattle.slots.proofs.ByMasks.{good_code}
use Rattle.slots.proofs.Summary.{summary_at}
use Rattle.seats.specs.declared.Seat.{Seat}
use Rattle.bookings.specs.Bookings.{fine}
use Rattle.bookings.proofs.Formed.{Formed}
use Rattle.seats.proofs.Tested.{stands_formed}
use Rattle.seats.proofs.Sound.{sound, sound_ok}
use Rattle.seats.specs.Seats.{blank, is_blank, held, bookings, good_settings, stands_in, is_bare, seat_ok, rank, insert, with_plan}
use Rattle.plans.proofs.Carried.{kept, rank_high, put_in, taken_out}
use Rattle.plans.proofs.Summed.{summary_in, summary_out}

-- ---- only one value is blank
is_up : (d : Direction) → not (is_down d) ≡ true → d ≡ Up
unfolding is_down
is_up Up e = refl
is_up Down e = true_false (sym e)

pub blank_only : (x : Booking) → is_blank x ≡ true → x ≡ blank
unfolding is_blank
blank_only x e =
    let a = and_true (eqb x.timeslot 0) _ e in
    let b = and_true (not (is_down x.direction)) _ a.1 in
    let c = and_true (eqb x.burst 0) _ b.1 in
    let d = and_true (eqb x.factor 0) _ c.1 in
    let f = and_true (eqb x.index 0) _ d.1 in
    let g = and_true (eqb x.user 0) _ f.1 in
    let h = and_true (eqb x.tfci 0) (eqb x.tpc 0) g.1 in
    same x.timeslot x.direction x.burst x.factor x.index x.user x.tfci x.tpc
    (eqb-true _ _ a.0) (is_up _ b.0) (eqb-true _ _ c.0) (eqb-true _ _ d.0) (eqb-true _ _ f.0) (eqb-true _ _ g.0) (eqb-true _ _ h.0) (eqb-true _ _ h.1)
  where
    same : (t : ℕ) (d : Direction) (b q k u f p : ℕ) → t ≡ 0 → d ≡ Up → b ≡ 0 → q ≡ 0 → k ≡ 0 → u ≡ 0 → f ≡ 0 → p ≡ 0
        → ◌≡◌ {A = Booking} (record { timeslot = t; direction = d; burst = b; factor = q; index = k; user = u; tfci = f; tpc = p }) blank
    same t d b q k u f p e₁ e₂ e₃ e₄ e₅ e₆ e₇ e₈ = simp (e₁, e₂, e₃, e₄, e₅, e₆, e₇, e₈)

-- ---- an open seat's settings
pub open_good : (s : Seat) → seat_ok s ≡ true → s.live ≡ true → good_settings s ≡ true
unfolding is_bare
open_good s e live = simp live at (sound s e).closed_or_good

-- ---- a seat with a given plan
blanks : (n : ℕ) → every is_blank (replicate n blank) ≡ true
unfolding is_blank is_down
blanks n = every_replicate is_blank blank refl n

plan_made : (s : Seat) (m : ℕ) (r : List Booking) (w : List Slot) (l : List Booking) → m ≡ length l → r ≡ l ++ replicate (40 - length l) blank → w ≡ summary_of l
    → kept s m r w ≡ with_plan s l
unfolding with_plan
plan_made s m r w l em er ew =
    ap (λ (n : ℕ). kept s n r w) em ∙ ap (λ (q : List Booking). kept s (length l) q w) er ∙ ap (λ (v : List Slot). kept s (length l) (l ++ replicate (40 - length l) blank) v) ew

module _ (s : Seat) (l : List Booking) (fits : length l ≤ 40) where
  -- it holds that plan, in a row of 40
  pub with_plan-held : held (with_plan s l) ≡ length l
  unfolding with_plan
  with_plan-held = omega arith

  pub with_plan-bookings : bookings (with_plan s l) ≡ l
  unfolding with_plan
  with_plan-bookings = take_at l (replicate (40 - length l) blank) (min (length l) 40) (omega arith)

  pub with_plan_row : length (with_plan s l).row ≡ 40
  unfolding with_plan
  with_plan_row = filled_length 40 blank l fits

  -- it meets its conditions if the plan does
  pub with_plan_ok : s.live ≡ true → good_settings s ≡ true → every (stands_in s) l ≡ true → pairs fine l ≡ true → seat_ok (with_plan s l) ≡ true
  unfolding with_plan good_settings
  with_plan_ok live good stand order =
      let rest = drop_at l (replicate (40 - length l) blank) (min (length l) 40) (omega arith) in
      sound_ok (with_plan s l)
      (record {
        closed_or_good = simp (live, good, or-true);
        few = fits;
        standing = ap (every (stands_in s)) with_plan-bookings ∙ stand;
        ordered = ap (pairs fine) with_plan-bookings ∙ order;
        rest_blank = ap (every is_blank) rest ∙ blanks (40 - length l);
        agrees = ap summary_of (sym with_plan-bookings);
      })

-- ---- the row of a seat that meets its conditions is its plan and blank places
pub plan_length : (s : Seat) → length s.row ≡ 40 → length (bookings s) ≡ held s
plan_length s wide = length-take-le (held s) s.row (omega arith)

module _ (s : Seat) (ok : seat_ok s ≡ true) (wide : length s.row ≡ 40) where
  pub blank_row : s.row ≡ bookings s ++ replicate (40 - length (bookings s)) blank
  blank_row =
      let rest = every_same is_blank blank blank_only (drop (held s) s.row) (sound s ok).rest_blank in
      let n : length (drop (held s) s.row) ≡ 40 - length (bookings s) = omega (arith, length-drop (held s) s.row, plan_length s wide) in
      sym (take-append-drop (held s) s.row) ∙ ap (λ (m : List Booking). bookings s ++ m) (rest ∙ ap (λ (k : ℕ). replicate k blank) n)

  -- a booking carried into the row, and one carried out
  pub put_in_plan : (x : Booking) → held s < 40 → x.timeslot ≤ 14 → put_in s x ≡ with_plan s (insert x (bookings s))
  unfolding put_in insert
  put_in_plan x room low =
      let p : rank x (bookings s) ≤ length (bookings s) = omega (arith, rank_high x (held s) s.row, plan_length s wide) in
      plan_made s (held s + 1) (take 40 (insert_at (rank x (bookings s)) x s.row)) _ (insert x (bookings s))
      (omega (arith, length-insert (rank x (bookings s)) (bookings s) x, plan_length s wide))
      (ap (λ (r : List Booking). take 40 (insert_at (rank x (bookings s)) x r)) blank_row
      ∙ filled_insert 40 blank (bookings s) (rank x (bookings s)) x p (omega (arith, plan_length s wide)))
      (ap (λ (w : List Slot). set w x.timeslot (joined_with (get_or w x.timeslot no_slot) x)) (sound s ok).agrees ∙ summary_in (bookings s) (rank x (bookings s)) x low)

  -- the row without it, and the one that goes
  pub row_without : (p : ℕ) → p < held s → remove_at p (s.row ++ blank ∷ []) ≡ remove_at p (bookings s) ++ replicate (40 - length (remove_at p (bookings s))) blank
  row_without p h =
      let b : p < length (bookings s) = omega (arith, plan_length s wide) in
      ap (λ (r : List Booking). remove_at p (r ++ blank ∷ [])) blank_row ∙ filled_remove 40 blank (bookings s) p b (omega (arith, plan_length s wide))

  pub goes : (p : ℕ) → p < held s → get_or s.row p blank ≡ get_or (bookings s) p blank
  goes p h = sym (get_or-take (held s) s.row p blank h)

  pub taken_out_at : (p : ℕ) → p < held s → (get_or s.row p blank).timeslot ≤ 14 → (v : Slot) → v ≡ slot_of (get_or s.row p blank).timeslot (remove_at p (bookings s))
      → taken_out s p v ≡ with_plan s (remove_at p (bookings s))
  unfolding taken_out
  taken_out_at p h low v ev =
      let b : p < length (bookings s) = omega (arith, plan_length s wide) in
      let same : (get_or s.row p blank).timeslot ≡ (get_or (bookings s) p blank).timeslot = ap (λ (x : Booking). x.timeslot) (goes p h) in
      plan_made s (held s - 1) (remove_at p (s.row ++ blank ∷ [])) _ (remove_at p (bookings s))
      (omega (arith, length_remove p (bookings s) b, plan_length s wide))
      (row_without p h)
      (ap (λ (w : List Slot). set w (get_or s.row p blank).timeslot v) (sound s ok).agrees
      ∙ ap (λ (t : ℕ). set (summary_of (bookings s)) t v) same
      ∙ summary_out (bookings s) p blank b (rw (← same) low) v (ev ∙ ap (λ (t : ℕ). slot_of t (remove_at p (bookings s))) same))

  -- ---- what the code may rely on: a kept number of bookings is small, and those that stay are in form
  pub count_kept : (t : ℕ) (d : Slot) → t ≤ 14 → (get_or s.slots t d).count < 255
  unfolding slot_of count_in
  count_kept t d low =
      let told : get_or s.slots t d ≡ slot_of t (bookings s) = ap (λ (w : List Slot). get_or w t d) (sound s ok).agrees ∙ summary_at (bookings s) d t low in
      let c : (get_or s.slots t d).count ≡ count_in t (bookings s) = ap (λ (v : Slot). v.count) told in
      omega (arith, c, count_le (is_in t) (bookings s), plan_length s wide)

  in_form : (x : Booking) → stands_in s x ≡ true → Formed x
  in_form x = stands_formed s.case s.k s.long s.short x

  pub gone_low : (p : ℕ) → p < held s → (get_or s.row p blank).timeslot ≤ 14
  gone_low p h =
      let b : p < length (bookings s) = omega (arith, plan_length s wide) in
      let f = in_form (get_or (bookings s) p blank) (every_at (stands_in s) (bookings s) p blank b (sound s ok).standing) in
      rw (goes p h) f.timeslot_high

  pub left_told : (p n : ℕ) (r : List Booking) → p < held s → n ≡ held s → r ≡ remove_at p (s.row ++ blank ∷ []) → take (n - 1) r ≡ remove_at p (bookings s)
  left_told p n r h en er =
      let b : p < length (bookings s) = omega (arith, plan_length s wide) in
      rw (er, row_without p h) (take_at (remove_at p (bookings s)) _ (n - 1) (omega (arith, length_remove p (bookings s) b, plan_length s wide, en)))

  pub left_good : (p n : ℕ) (r : List Booking) → p < held s → n ≡ held s → r ≡ remove_at p (s.row ++ blank ∷ []) → every good_code (take (n - 1) r) ≡ true
  left_good p n r h en er =
      rw (left_told p n r h en er)
      (every_remove good_code (bookings s) p (every_weaker (stands_in s) good_code (λ x e. ap not (in_form x e).code_good) (bookings s) (sound s ok).standing))

-- The place of the booking that is named by timeslot and code, and whether there is one. Cited by place_named's proof and by Cancelled.
-- Assumes nothing.
-- The place of the booking that is named by timeslot and code, step by step. Cited by place_named's proof and by Cancelled.
-- Assumes nothing.
use mathlib.Core.Path.{◌≡◌, refl, sym, ◌∙◌}
use mathlib.Core.Logic.{⊎_elim}
use mathlib.Core.Bool.{true, false, not}
use mathlib.Core.List.{List, [], ◌∷◌}
use Prim.Native.Nat.{ℕ, ◌<◌}
use native.Mathlib.Numerals.{add-one}
use native.Mathlib.Omega.{arith}
use lib.Dec.{leb, leb-suc-zero, leb-suc-suc}
use lib.ListN.{length}
use borrow.Author.Tests.{le-leb, lt-leb}
use Rattle.std.specs.Prelude.{Option, Some, None, is_none, MatchOption}
use Rattle.std.specs.Option.{unwrap_or}
use Rattle.std.specs.List.{AllWithin, HoldsAt}
use Rattle.std.proofs.lemmas.Iterator.{index_from_first}
use Rattle.laws.specs.Lists.{every}
use Rattle.laws.proofs.Lists.{by_cases}
use Rattle.bookings.specs.declared.Booking.{Booking}
use Rattle.seats.specs.Seats.{names}
use Rattle.plans.specs.Inside.{place_named}

module _ (timeslot factor index : ℕ) where
  -- the place is inside the list just if one is named
  pub placed_or_none : (l : List Booking) → leb (length l) (place_named timeslot factor index l) ≡ every (λ y. not (names timeslot factor index y)) l
  unfolding every place_named
  placed_or_none [] = refl
  placed_or_none (y ∷ l) =
      ⊎_elim
      (λ h. rw h (leb-suc-zero (length l)))
      (λ h. rw h (leb-suc-suc (length l) (place_named timeslot factor index l) ∙ placed_or_none l))
      (by_cases (names timeslot factor index y))

  -- by what `position` found
  abbrev pub Yes : Booking → Type 0
  Yes y = names timeslot factor index y ≡ true

  abbrev pub No : Booking → Type 0
  No y = names timeslot factor index y ≡ false

  pub found_place : (l : List Booking) (r : Option ℕ) → MatchOption r (AllWithin No l 0 (length l)) (λ i. (i < length l) × HoldsAt Yes l i × AllWithin No l 0 i)
      → unwrap_or r (length l) ≡ place_named timeslot factor index l
  unfolding place_named
  found_place l r found =
      sym (index_from_first (place_named timeslot factor index) Yes No refl (λ y xs h. rw h refl) (λ y xs h. rw h (sym (add-one (place_named timeslot factor index xs)))) l r found)

  -- and whether it found one
  pub found_none : (l : List Booking) (r : Option ℕ) → MatchOption r (AllWithin No l 0 (length l)) (λ i. (i < length l) × HoldsAt Yes l i × AllWithin No l 0 i)
      → is_none r ≡ every (λ y. not (names timeslot factor index y)) l
  found_none l None found = sym (le-leb (length l) _ (omega (arith, found_place l None found))) ∙ placed_or_none l
  found_none l (Some i) found = sym (lt-leb (length l) _ (omega (arith, found_place l (Some i) found, found.0))) ∙ placed_or_none l

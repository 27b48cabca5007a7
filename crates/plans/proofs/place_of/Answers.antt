-- `plans::place_of` meets its contract: the rank is how many come before.
-- Assumes nothing.
use mathlib.Core.Path.{◌≡◌, refl, sym, ◌∙◌}
use mathlib.Core.Logic.{⊎_elim}
use mathlib.Core.List.{List}
use native.Mathlib.Nat.{zero-add}
use borrow.Author.Rules.{rules}
use Rattle.std.specs.List.{count_by}
use Rattle.std.proofs.lemmas.List.Recursion.{is_count_by}
use Rattle.laws.specs.Lists.{total}
use Rattle.laws.proofs.Cases.{by_cases}
use Rattle.bookings.specs.declared.Booking.{Booking}
use Rattle.bookings.specs.Bookings.{comes}
use Rattle.seats.specs.Seats.{rank}
use Rattle.plans.proofs.place_of.Goals as goal

counted : (x : Booking) (l : List Booking) → rank x l ≡ count_by (λ y. comes y x) l
unfolding rank total
counted x l = is_count_by (rank x) (λ y. comes y x) refl (λ y r. ⊎_elim (λ h. rw h refl) (λ h. rw h (zero-add _)) (by_cases (comes y x))) l

pub returns : goal.returns
returns c =
    let many : c.count.result ≡ count_by (λ y. comes y c.args.x) c.args.list.now = search rules in
    many ∙ sym (counted c.args.x c.args.list.now)

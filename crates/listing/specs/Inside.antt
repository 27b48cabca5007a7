-- What the functions of this crate promise each other: what a list selects before anything is written. No reader of the promise of `list` has to believe it.
-- Assumes nothing.
use Rattle.std.specs.Prelude.{◌∷◌, ℕ, ltb}
use Rattle.refusals.specs.Refusals.{first_of}
use Rattle.classbook.specs.declared.Book.{Book}
use Rattle.classbook.specs.Book.{seat_of}
use Rattle.classbook.specs.Calls.{ListAnswer, seat_refusals, list_with}

-- the list by value, or nothing: refused as the seat is, or 11 where there are fewer than 40 records to write to
unfoldable pub selection_of : Book → ℕ → ℕ → ListAnswer
selection_of b seat size = list_with (first_of ((11, ltb size 40) ∷ seat_refusals b seat)) (seat_of b seat)

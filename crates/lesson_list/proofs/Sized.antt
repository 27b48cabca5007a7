-- A book that a function is handed has sixteen seats of forty places: the types say so.
-- Cited by the proof of `listed`. Assumes nothing.
use mathlib.Core.Path.{◌≡◌}
use mathlib.Core.List.{List, [], ◌∷◌}
use Prim.Native.Nat.{ℕ, zero, suc, ◌<◌}
use native.Mathlib.Omega.{arith}
use lib.ListN.{length, get_or}
use mir.Val.{Val}
use denote.Shadow.{shadow}
use denote.Laws.{Is}
use denote.Array.{each}
use Rattle.seats.specs.declared.Seat.{Seat}
use Rattle.seats.specs.Seats.{closed}
use Rattle.seats.specs.contracts.Seat as S
use Rattle.classbook.specs.declared.Book.{Book}
use Rattle.classbook.specs.Book.{seat_of}
use Rattle.classbook.specs.contracts.Book as B
use Rattle.classbook.proofs.Valid.{Sized}

-- each of the seats that values in memory stand for has a row of forty
row_of : (l : List Seat) (us : List Val)
    → shadow (each (S.the_row).Denot (S.the_row).own_val l us)
    → (i : ℕ) → i < length l → length (get_or l i closed).row ≡ 40
row_of [] us is i h = absurd (omega arith)
row_of (s ∷ l) [] is i h = absurd is
row_of (s ∷ l) (u ∷ us) is zero h = is.0.1.1.1.1.1.1.1.1.1.0.1.0.1
row_of (s ∷ l) (u ∷ us) is (suc i) h = row_of l us is.1 i (omega arith)

pub book_sized : (b : Book) (v : Val) → Is B.the_row b (v ∷ []) → Sized b
unfolding seat_of
book_sized b v is =
    let array = is.1.1.0 in
    let n : length b.seats ≡ 16 = array.1.0.1 in
    record {
      seats = n;
      rows = λ seat low. row_of b.seats array.0 array.1.1 seat (omega arith);
    }

-- Document 02, C-17, "Seats opened before keep 16 and 6": what a seat keeps while it is open. Cited by
-- proofs/KeptCounts.antt and proofs/OldDefault.antt. Assumes nothing.
use Rattle.std.specs.Prelude.{◌≡◌, Bool, true, false, ◌&&◌, ℕ, eqb}
use Rattle.seats.specs.declared.Seat.{Seat}
use Rattle.demand.specs.Lesson.{Call, opens, books, cancels, closes, lists, glances, Turn}

-- whether a call closes its seat
unfoldable pub is_close : Call → Bool
is_close (opens cell case k long short) = false
is_close (books x) = false
is_close (cancels timeslot factor index) = false
is_close closes = true
is_close (lists lent) = false
is_close (glances timeslot) = false

-- whether a turn closes this seat
unfoldable pub closes_it : ℕ → Turn → Bool
closes_it seat t = eqb t.seat seat && is_close t.call

-- a seat that is still open, with the counts that it had
pub record SameCounts (before now : Seat) : Type 0 where
  pub live : now.live ≡ true
  pub long : now.long ≡ before.long
  pub short : now.short ≡ before.short

-- Document 02, C-17: the users of a seat that was opened with counts of 0. Cited by
-- proofs/Default.antt. Assumes nothing.
use Rattle.std.specs.Prelude.{cond, ℕ, eqb}

-- "users above 8, or above 3 on short codes": the last user of a default seat, by burst type
unfoldable pub last_user : ℕ → ℕ
last_user burst = cond (eqb burst 2) 3 8

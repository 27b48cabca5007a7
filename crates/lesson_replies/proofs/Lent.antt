-- What is lent is no more than there is. Cited by the proofs of bytes_lent and filled_line.
-- Assumes nothing.
use Rattle.std.proofs.Common.{◌≡◌, ℕ, ◌≤◌, ◌<◌, Bool, true, false, cond, min, ltb, refl, arith, ltb-true, ltb-false}
use Rattle.lesson_replies.specs.Replies.{bytes_lent}

-- the lesser of both
pub lesser : (n room : ℕ) → min room n ≡ bytes_lent n room
unfolding bytes_lent
lesser n room = by (ltb room n) refl
  where
    by : (b : Bool) → ltb room n ≡ b → min room n ≡ cond b room n
    by true e = let h : room < n = ltb-true room n e in omega arith
    by false e = let h : n ≤ room = ltb-false room n e in omega arith

pub lent_fits : (n room : ℕ) → bytes_lent n room ≤ room
unfolding bytes_lent
lent_fits n room = by (ltb room n) refl
  where
    by : (b : Bool) → ltb room n ≡ b → cond b room n ≤ room
    by true e = omega arith
    by false e = ltb-false room n e

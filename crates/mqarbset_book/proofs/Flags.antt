-- A truth value as a byte is 0 or 1, and so is a direction. Cited by the proofs of `write_booking` and `write_seat`, and of the records of a list.
-- Assumes nothing.
use mathlib.Core.Path.{◌≡◌, refl}
use mathlib.Core.Bool.{Bool, true, false}
use mir.Val.{bool_byte}
use Rattle.laws.specs.Lists.{one}
use Rattle.conditions.specs.declared.Direction.{Direction}
use Rattle.conditions.specs.declared.Direction.TheVariants.{Up, Down}
use Rattle.conditions.specs.Conditions.{is_down}
use Rattle.mqarbset_book.specs.Mirror.{write_direction}

pub flag_byte : (b : Bool) → bool_byte b ≡ one b
flag_byte true = refl
flag_byte false = refl

pub down_byte : (d : Direction) (b : Bool) → b ≡ is_down d → bool_byte b ≡ write_direction d
unfolding is_down write_direction
down_byte Up b e = rw e
down_byte Down b e = rw e

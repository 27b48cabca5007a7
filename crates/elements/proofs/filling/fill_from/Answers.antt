-- `elements::filling::fill_from` meets its contract: the piece of a digit that was begun, whole digits, and the piece that is left, each behind the one before.
-- Assumes nothing.
use Rattle.elements.proofs.Steps.{whole_digits, last_piece, room_behind, piece_behind}
use Rattle.elements.proofs.filling.fill_from.Goals as goal

pub fill_piece-requires-2 : goal.fill_piece-requires-2
fill_piece-requires-2 c =
    let a = c.args in
    let begun = c.before_digit.ensures in
    let least = c.min-first.ensures in
    let middle = whole_digits _ _ _ _ _ begun least _ _ _ c.fill_piece.ensures c.fill_digits.ensures in
    (last_piece a.row.bytes.now _ _ _ _ begun least, room_behind _ _ _ _ _ begun least a.out.now _ c.requires middle)

pub returns : goal.returns
returns c =
    let a = c.args in
    let begun = c.before_digit.ensures in
    let least = c.min-first.ensures in
    let middle = whole_digits _ _ _ _ _ begun least _ _ _ c.fill_piece.ensures c.fill_digits.ensures in
    piece_behind _ _ _ _ _ begun least a.out.now _ _ middle c.fill_piece-2.ensures

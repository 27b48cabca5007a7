-- A seat is read byte by byte, its places one by one. Assumes nothing.
use Rattle.std.proofs.Common.{◌≡◌, map, rules}
use Rattle.mqarbset_book.specs.Mirror.{read_booking, read_slot, read_seat}
use Rattle.mqarbset_book.proofs.Copied.{made}
use Rattle.mqarbset_book.proofs.reading.SeatFromRefMqSeat.from.Goals as goal

pub returns : goal.returns
unfolding read_seat
returns c =
    let row : c.from_fn.result ≡ map read_booking c.args.s.now.row = made read_booking c.args.s.now.row _ (search rules) c.from_fn.ensures.items (λ i y q b k. search rules) in
    let slots : c.from_fn-2.result ≡ map read_slot c.args.s.now.slots = made read_slot c.args.s.now.slots _ (search rules) c.from_fn-2.ensures.items (λ i y q b k. search rules) in
    simp (row, slots)

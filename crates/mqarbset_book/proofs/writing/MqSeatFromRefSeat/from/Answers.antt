-- A seat is written byte by byte, its places one by one. Assumes nothing.
use Rattle.std.proofs.Common.{◌≡◌, map, rules}
use Rattle.mqarbset_book.specs.Mirror.{write_booking, write_slot, write_seat}
use Rattle.mqarbset_book.proofs.Copied.{made}
use Rattle.mqarbset_book.proofs.Flags.{flag_byte}
use Rattle.mqarbset_book.proofs.writing.MqSeatFromRefSeat.from.Goals as goal

pub returns : goal.returns
unfolding write_seat
returns c =
    let row : c.from_fn.result ≡ map write_booking c.args.s.now.row = made write_booking c.args.s.now.row _ (search rules) c.from_fn.ensures.items (λ i y q b k. search rules) in
    let slots : c.from_fn-2.result ≡ map write_slot c.args.s.now.slots = made write_slot c.args.s.now.slots _ (search rules) c.from_fn-2.ensures.items (λ i y q b k. search rules) in
    simp (row, slots, flag_byte c.args.s.now.live)

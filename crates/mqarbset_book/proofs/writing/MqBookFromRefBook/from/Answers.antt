-- A book is written seat by seat. Assumes nothing.
use Rattle.std.proofs.Common.{◌≡◌, map, rules}
use Rattle.mqarbset_book.specs.Mirror.{write_seat, write_book}
use Rattle.mqarbset_book.proofs.Copied.{made}
use Rattle.mqarbset_book.proofs.writing.MqBookFromRefBook.from.Goals as goal

pub returns : goal.returns
unfolding write_book
returns c =
    let all : c.from_fn.result ≡ map write_seat c.args.b.now.seats = made write_seat c.args.b.now.seats _ (search rules) c.from_fn.ensures.items (λ i y q b k. search rules) in
    simp all

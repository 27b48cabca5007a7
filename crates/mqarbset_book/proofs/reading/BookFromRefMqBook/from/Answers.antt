-- A book is read seat by seat, or is a broken one. Assumes nothing.
use mathlib.Core.Path.{sym, ◌∙◌}
use Rattle.std.proofs.Common.{◌≡◌, map, rules}
use Rattle.mqarbset_book.specs.Mirror.{read_seat, read_book}
use Rattle.mqarbset_book.proofs.Copied.{made}
use Rattle.mqarbset_book.proofs.reading.BookFromRefMqBook.from.Goals as goal

pub returns-then-not-is_proper : goal.returns-then-not-is_proper
unfolding read_book
returns-then-not-is_proper c = c.broken_book.ensures ∙ simp (sym c.is_proper.ensures ∙ c.if-not-is_proper.true)

pub returns : goal.returns
unfolding read_book
returns c =
    let all : c.from_fn.result ≡ map read_seat c.args.b.now.seats = made read_seat c.args.b.now.seats _ (search rules) c.from_fn.ensures.items (λ i y q b k. search rules) in
    simp (sym c.is_proper.ensures ∙ c.if-not-is_proper.false, all)

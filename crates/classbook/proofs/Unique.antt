-- The calls on the book ask nothing, and no second answer, book or list could satisfy their promises. `Pre` and `Post` are the contracts that rattle reads off the
-- source. A weakened `ensures` fails here. Assumes nothing.
use mathlib.Core.Path.{◌≡◌, sym, ap, ◌∙◌}
use mathlib.Core.List as row
use Prim.Native.Nat.{ℕ}
use Rattle.std.specs.Prelude.{Result, Ok, Err}
use Rattle.refusals.specs.declared.Refusal.{Refusal}
use Rattle.refusals.proofs.Numbers.{refusal_in_once, number_once, number_not_0}
use Rattle.bookings.specs.declared.Booking.{Booking}
use Rattle.seats.specs.declared.Seat.{Seat}
use Rattle.classbook.specs.declared.Book.{Book}
use Rattle.classbook.specs.declared.List.{List}
use Rattle.classbook.specs.Calls.{BookAnswer, SeatAnswer, ListAnswer, said_book, said_seat, said_list}
use Rattle.classbook.proofs.empty_book.Reads as empty-book
use Rattle.classbook.proofs.book_ok.Reads as book-ok
use Rattle.classbook.proofs.open_seat.Reads as open-seat
use Rattle.classbook.proofs.book_code.Reads as book-code
use Rattle.classbook.proofs.cancel_code.Reads as cancel-code
use Rattle.classbook.proofs.close_seat.Reads as close-seat
use Rattle.classbook.proofs.seat_asked.Reads as seat-asked
use Rattle.classbook.proofs.list_seat.Reads as list-seat
use Rattle.classbook.proofs.seat_named.Reads as seat-named

-- two results with the same number are the same, and so are the books that they leave
once : (r r' : Result Unit Refusal) (b b' : Book) → said_book r b ≡ said_book r' b' → (r ≡ r') × (b ≡ b')
once r r' b b' e = (refusal_in_once r r' (ap (λ (a : BookAnswer). a.refusal) e), ap (λ (a : BookAnswer). a.book) e)

-- two that say the same of a seat, or of a list, are the same
seat_once : (b : Book) (seat : ℕ) (r r' : Result Seat Refusal) → said_seat b seat r ≡ said_seat b seat r' → r ≡ r'
seat_once b seat (Ok s) (Ok t) e = ap Ok (ap (λ (a : SeatAnswer). a.seat) e)
seat_once b seat (Err r) (Err t) e = ap Err (number_once r t (ap (λ (a : SeatAnswer). a.refusal) e))
seat_once b seat (Ok s) (Err t) e = absurd (number_not_0 t (sym (ap (λ (a : SeatAnswer). a.refusal) e)))
seat_once b seat (Err r) (Ok t) e = absurd (number_not_0 r (ap (λ (a : SeatAnswer). a.refusal) e))

list_once : (r r' : Result List Refusal) → said_list r ≡ said_list r' → r ≡ r'
list_once (Ok l) (Ok m) e =
    let ec : l.count ≡ m.count = ap (λ (a : ListAnswer). a.count) e in
    let er : l.row ≡ m.row = ap (λ (a : ListAnswer). a.row) e in
    ap Ok (same l.count m.count l.row m.row ec er)
  where
    same : (c d : ℕ) (v w : row.List Booking) → c ≡ d → v ≡ w → ◌≡◌ {A = List} (record { count = c; row = v }) (record { count = d; row = w })
    same c d v w ec er = rw (ec, er)
list_once (Err r) (Err t) e = ap Err (number_once r t (ap (λ (a : ListAnswer). a.refusal) e))
list_once (Ok l) (Err t) e = absurd (number_not_0 t (sym (ap (λ (a : ListAnswer). a.refusal) e)))
list_once (Err r) (Ok m) e = absurd (number_not_0 r (ap (λ (a : ListAnswer). a.refusal) e))

pub empty_book_asks_nothing : (κs : _) (a : _) → empty-book.Pre κs a
empty_book_asks_nothing κs a = tt

pub empty_book_unique : (κs : _) (a : _) (r r' : _) (s s' : _) → empty-book.Post κs a r s → empty-book.Post κs a r' s' → r ≡ r'
empty_book_unique κs a r r' s s' p q = p ∙ sym q

pub book_ok_asks_nothing : (κs : _) (a : _) → book-ok.Pre κs a
book_ok_asks_nothing κs a = tt

pub book_ok_unique : (κs : _) (a : _) (r r' : _) (s s' : _) → book-ok.Post κs a r s → book-ok.Post κs a r' s' → r ≡ r'
book_ok_unique κs a r r' s s' p q = p ∙ sym q

pub open_seat_asks_nothing : (κs : _) (a : _) → open-seat.Pre κs a
open_seat_asks_nothing κs a = tt

pub open_seat_unique : (κs : _) (a : _) (r r' : _) (s s' : _) → open-seat.Post κs a r s → open-seat.Post κs a r' s' → (r ≡ r') × (s.0.now ≡ s'.0.now)
open_seat_unique κs a r r' s s' p q = once r r' s.0.now s'.0.now (p ∙ sym q)

pub book_code_asks_nothing : (κs : _) (a : _) → book-code.Pre κs a
book_code_asks_nothing κs a = tt

pub book_code_unique : (κs : _) (a : _) (r r' : _) (s s' : _) → book-code.Post κs a r s → book-code.Post κs a r' s' → (r ≡ r') × (s.0.now ≡ s'.0.now)
book_code_unique κs a r r' s s' p q = once r r' s.0.now s'.0.now (p ∙ sym q)

pub cancel_code_asks_nothing : (κs : _) (a : _) → cancel-code.Pre κs a
cancel_code_asks_nothing κs a = tt

pub cancel_code_unique : (κs : _) (a : _) (r r' : _) (s s' : _) → cancel-code.Post κs a r s → cancel-code.Post κs a r' s' → (r ≡ r') × (s.0.now ≡ s'.0.now)
cancel_code_unique κs a r r' s s' p q = once r r' s.0.now s'.0.now (p ∙ sym q)

pub close_seat_asks_nothing : (κs : _) (a : _) → close-seat.Pre κs a
close_seat_asks_nothing κs a = tt

pub close_seat_unique : (κs : _) (a : _) (r r' : _) (s s' : _) → close-seat.Post κs a r s → close-seat.Post κs a r' s' → (r ≡ r') × (s.0.now ≡ s'.0.now)
close_seat_unique κs a r r' s s' p q = once r r' s.0.now s'.0.now (p ∙ sym q)

pub seat_asked_asks_nothing : (κs : _) (a : _) → seat-asked.Pre κs a
seat_asked_asks_nothing κs a = tt

pub seat_asked_unique : (κs : _) (a : _) (r r' : _) (s s' : _) → seat-asked.Post κs a r s → seat-asked.Post κs a r' s' → r ≡ r'
seat_asked_unique κs a r r' s s' p q = seat_once a.0.now a.1.0 r r' (p ∙ sym q)

pub seat_named_asks_nothing : (κs : _) (a : _) → seat-named.Pre κs a
seat_named_asks_nothing κs a = tt

pub seat_named_unique : (κs : _) (a : _) (r r' : _) (s s' : _) → seat-named.Post κs a r s → seat-named.Post κs a r' s' → r ≡ r'
seat_named_unique κs a r r' s s' p q = p ∙ sym q

pub list_seat_asks_nothing : (κs : _) (a : _) → list-seat.Pre κs a
list_seat_asks_nothing κs a = tt

pub list_seat_unique : (κs : _) (a : _) (r r' : _) (s s' : _) → list-seat.Post κs a r s → list-seat.Post κs a r' s' → r ≡ r'
list_seat_unique κs a r r' s s' p q = list_once r r' (p ∙ sym q)

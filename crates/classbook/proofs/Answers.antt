-- What a call's answer comes to, by its first refusal's number. Cited by the proofs of the calls.
-- Assumes nothing.
use mathlib.Core.Path.{◌≡◌, refl, sym, ap, ◌∙◌}
use mathlib.Core.List.{List}
use Prim.Native.Nat.{ℕ}
use lib.ListN.{replicate}
use Rattle.std.specs.Prelude.{Result, Ok, Err}
use Rattle.std.specs.Result.{IsErrAnd}
use Rattle.refusals.specs.declared.Refusal.{Refusal}
use Rattle.refusals.specs.Refusals.{first_of, after, number_of}
use Rattle.refusals.proofs.First.{after_refused, after_answered}
use Rattle.refusals.proofs.Numbers.{number_not_0}
use Rattle.bookings.specs.declared.Booking.{Booking}
use Rattle.seats.specs.declared.Seat.{Seat}
use Rattle.seats.specs.Seats.{blank, held}
use Rattle.classbook.specs.declared.Book.{Book}
use Rattle.classbook.specs.declared.List as listed
use Rattle.classbook.specs.Book.{seat_of}
use Rattle.classbook.specs.Calls.{BookAnswer, ListAnswer, said_book, with_book, seat_refusals, said_seat, seat_answer, said_list, list_with}

-- an answer with the refusal n and this book
abbrev reply : ℕ → Book → BookAnswer
reply n b = record { refusal = n; book = b }

-- refused: the book stays
pub refused_by : (r : Result Unit Refusal) (e : Refusal) (m : ℕ) (b made : Book) → IsErrAnd r (λ y. y ≡ e) → number_of e ≡ m → said_book r b ≡ with_book m b made
refused_by (Ok v) e m b made h n = absurd h
refused_by (Err y) e m b made h n =
    ap (λ (k : ℕ). reply k b) (ap number_of h ∙ n) ∙ ap (λ (c : Book). reply m c) (sym (after_refused m b made (λ z. number_not_0 e (n ∙ z))))

-- else it is the one that the call makes
pub made_by : (m : ℕ) (b made got : Book) → 0 ≡ m → got ≡ made → said_book (Ok tt) got ≡ with_book m b made
made_by m b made got e g = ap (λ (k : ℕ). reply k got) e ∙ ap (λ (c : Book). reply m c) (g ∙ sym (after_answered m b made (sym e)))

-- a seat that is asked for
pub seat_refused : (b : Book) (seat : ℕ) (r : Result Seat Refusal) (e : Refusal) → IsErrAnd r (λ y. y ≡ e) → number_of e ≡ first_of (seat_refusals b seat) → said_seat b seat r ≡ seat_answer b seat
unfolding seat_answer
seat_refused b seat (Ok s) e h n = absurd h
seat_refused b seat (Err y) e h n = ap (λ (k : ℕ). record { refusal = k; seat = seat_of b seat }) (ap number_of h ∙ n)

pub seat_brought : (b : Book) (seat : ℕ) (s : Seat) → 0 ≡ first_of (seat_refusals b seat) → s ≡ seat_of b seat → said_seat b seat (Ok s) ≡ seat_answer b seat
unfolding seat_answer
seat_brought b seat s z e = rw (e, ← z) refl

-- a list: refused it names nothing, else it is the seat's own row
abbrev names : ℕ → ℕ → List Booking → ListAnswer
names n m r = record { refusal = n; count = m; row = r }

pub list_refused : (r : Result listed.List Refusal) (e : Refusal) (n : ℕ) (s : Seat) → IsErrAnd r (λ y. y ≡ e) → number_of e ≡ n → said_list r ≡ list_with n s
list_refused (Ok l) e n s h en = absurd h
list_refused (Err y) e n s h en =
    let some : n ≡ 0 → ⊥ = λ z. number_not_0 e (en ∙ z) in
    ap (λ (k : ℕ). names k 0 (replicate 40 blank)) (ap number_of h ∙ en)
    ∙ ap (λ (k : ℕ). names n k (replicate 40 blank)) (sym (after_refused n 0 (held s) some))
    ∙ ap (λ (r : List Booking). names n (after n 0 (held s)) r) (sym (after_refused n (replicate 40 blank) s.row some))

pub list_given : (n k : ℕ) (s t : Seat) → 0 ≡ n → k ≡ held s → s ≡ t → names 0 k s.row ≡ list_with n t
unfolding after
list_given n k s t z ek et = ap (λ (i : ℕ). names 0 i s.row) ek ∙ ap (λ (u : Seat). list_with 0 u) et ∙ ap (λ (i : ℕ). list_with i t) z

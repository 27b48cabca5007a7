-- `elements::reading::LentRow::bit_in` meets its contract: the digit that the bit lies in, and its bit.
-- Assumes nothing.
use mathlib.Core.Path.{◌≡◌, sym, ap, ◌∙◌}
use mathlib.Core.List.{List}
use Prim.Native.Nat.{ℕ, ◌-◌, ◌*◌, ◌/◌, ◌%◌, ◌^◌}
use native.Mathlib.Omega.{arith}
use lib.ListN.{length, get_or}
use Rattle.code_text.specs.Rows.{bit_at}
use Rattle.elements.specs.Inside.{Row, digits_in}
use Rattle.elements.proofs.Repeats.{bit_of_digit}
use Rattle.elements.proofs.reading.LentRow.bit_in.Goals as goal

-- of the digit that was read
bit-read : (row : List ℕ) (p d : ℕ) → Row row → d ≡ get_or (digits_in row) (p / 4 % (2 * length row)) 0 → d / 2 ^ (3 - p % 4) % 2 ≡ bit_at (digits_in row) (p % (8 * length row))
bit-read row p d good e =
    let digits : 2 * length row ≡ 8 * length row / 4 = omega arith in
    ap (λ (k : ℕ). k / 2 ^ (3 - p % 4) % 2) (e ∙ ap (λ (n : ℕ). get_or (digits_in row) (p / 4 % n) 0) digits)
    ∙ sym (bit_of_digit (8 * length row) (omega arith) (omega (arith, good.some)) (digits_in row) p)

pub returns : goal.returns
returns c = bit-read _ _ _ c.args.self.good c.digit_of.ensures

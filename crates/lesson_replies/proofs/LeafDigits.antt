-- The digits of a timeslot's leaves, as they are written one after another, cited by the proof of numbers_of; and that each is 1 where a booking covers its leaf, else 0.
-- Assumes nothing.
use Rattle.std.proofs.Common.{◌≡◌, ℕ, zero, suc, ◌+◌, ◌*◌, ◌/◌, ◌%◌, ◌^◌, ◌<◌, ◌≤◌, Bool, true, false, List, [], ◌∷◌, ◌++◌, set, replicate, sym, refl, ap, ◌∙◌, le_of_suc-le-suc, not-suc-le-zero, add-one, arith}
use native.Mathlib.Nat.{pow-succ', div-div-eq-div-mul}
use Rattle.laws.specs.Lists.{one, total}
use Rattle.leaves.specs.Leaves.{pattern}
use Rattle.bookings.specs.declared.Booking.{Booking}
use Rattle.slots.specs.Slots.{covered_in, slot_of}
use Rattle.lesson_replies.specs.Summary.{leaf_digit, leaf_digits}

module _ (leaves count : ℕ) where
  -- the first n digits, and behind them the number of bookings in every place
  pub written : ℕ → List ℕ
  written zero = replicate 17 count
  written (suc n) = set (written n) n (leaf_digit leaves n)

  pub written_none : replicate 17 count ≡ written 0
  unfolding written
  written_none = refl

  pub written_next : (i d : ℕ) (l : List ℕ) → l ≡ written i → d ≡ leaf_digit leaves i → set l i d ≡ written (i + 1)
  unfolding written
  written_next i d l e q = ap (λ (m : List ℕ). set m i d) e ∙ ap (λ (x : ℕ). set (written i) i x) q ∙ ap written (sym (add-one i))

  pub written_all : written 16 ≡ leaf_digits leaves ++ (count ∷ [])
  unfolding written leaf_digits
  written_all = refl

-- ---- what a digit says
digit_low : (b : Bool) (m : ℕ) → leaf_digit (one b + 2 * m) 0 ≡ one b
unfolding leaf_digit
digit_low true m = omega arith
digit_low false m = omega arith

digit_high : (b : Bool) (m i : ℕ) → leaf_digit (one b + 2 * m) (suc i) ≡ leaf_digit m i
unfolding leaf_digit
digit_high b m i =
    ap (λ (p : ℕ). (one b + 2 * m) / p % 2) (pow-succ' 2 i) ∙ ap (λ (x : ℕ). x % 2) (sym (div-div-eq-div-mul (one b + 2 * m) 2 (2 ^ i)))
    ∙ ap (λ (x : ℕ). x / 2 ^ i % 2) (half b)
  where
    half : (b : Bool) → (one b + 2 * m) / 2 ≡ m
    half true = omega arith
    half false = omega arith

module _ (f : ℕ → Bool) where
  -- n leaves from leaf i on as a number, the first as its lowest bit
  from : ℕ → ℕ → ℕ
  from i zero = 0
  from i (suc n) = one (f i) + 2 * from (suc i) n

  as_from : pattern f ≡ from 0 16
  unfolding pattern total from
  as_from = omega arith

  digit_from : (i n l : ℕ) → l < n → leaf_digit (from i n) l ≡ one (f (i + l))
  unfolding from
  digit_from i zero l h = absurd (not-suc-le-zero h)
  digit_from i (suc n) zero h = digit_low (f i) (from (suc i) n) ∙ let z : i ≡ i + 0 = omega arith in ap (λ (k : ℕ). one (f k)) z
  digit_from i (suc n) (suc l) h =
      let z : suc i + l ≡ i + suc l = omega arith in
      digit_high (f i) (from (suc i) n) l ∙ digit_from (suc i) n l (le_of_suc-le-suc h) ∙ ap (λ (k : ℕ). one (f k)) z

  digit_of : (l : ℕ) → l ≤ 15 → leaf_digit (pattern f) l ≡ one (f l)
  digit_of l h =
      let z : 0 + l ≡ l = omega arith in
      ap (λ (n : ℕ). leaf_digit n l) as_from ∙ digit_from 0 16 l (omega arith) ∙ ap (λ (k : ℕ). one (f k)) z

-- "1 where one of the seat's bookings in that timeslot covers it, else 0": of the bookings bs, in timeslot t
pub digit_covered : (t : ℕ) (bs : List Booking) (l : ℕ) → l ≤ 15 → leaf_digit (slot_of t bs).leaves l ≡ one (covered_in t bs l)
unfolding slot_of
digit_covered t bs l h = digit_of (covered_in t bs) l h

-- One user more: heard better, not better, or not permitted; and the sums, squares and strength of a user as the code finds them. Cited by the proof of best_heard.
-- Assumes nothing.
use mathlib.Core.Path.{◌≡◌, refl, sym, ap, ◌∙◌, subst}
use mathlib.Core.Bool.{Bool, true, false, cond, ◌&&◌}
use mathlib.Core.List.{List}
use Prim.Native.Nat.{ℕ, zero, suc, ◌+◌, ◌-◌, ◌≤◌, ◌<◌}
use native.Mathlib.Numerals.{add-one}
use native.Mathlib.Omega.{arith}
use borrow.Author.Tests.{lt-ltb, le-ltb}
use lib.Dec.{ltb}
use lib.IntN.{ℤ, nat_abs}
use lib.Ieee.{Float, binary32, of_int}
use Rattle.floats.proofs.Sums.{whole_is}
use Rattle.codes.specs.Codes.{code_of, shift_of, permitted}
use Rattle.codes.proofs.Numbers.{shift_in_period, length_high}
use Rattle.samples.specs.Samples.{sample_of}
use Rattle.samples.proofs.Reading.{reads}
use Rattle.correlation.specs.declared.Sums.{Sums}
use Rattle.correlation.specs.Inside.{turned_back, dot_of, sums_of, Samples, Signs, reach}
use Rattle.correlation.proofs.Columns.{dot_size}
use Rattle.correlation.proofs.Turning.{turned_size}
use Rattle.hearing.specs.declared.Heard.{Heard}
use Rattle.hearing.specs.declared.Heard.TheVariants as one
use Rattle.hearing.specs.Hearing.{loudest}
use Rattle.hearing.specs.Calls.{somebody, heard_meant}
use Rattle.hearing.specs.Inside.{square, sums_in, sums_at, strength_in, loudest_in, heard_as, heard_in}

-- ---- one user more
module _ (may : ℕ → Bool) (heard : ℕ → ℕ) (u who : ℕ) (so_far : who ≡ loudest may heard u) where
  step : (b c : Bool) → may (suc u) ≡ b → ltb (heard (loudest may heard u)) (heard (suc u)) ≡ c → loudest may heard (u + 1) ≡ cond (b && c) (suc u) (loudest may heard u)
  unfolding loudest
  step b c p q =
      ap (loudest may heard) (add-one u)
      ∙ ap (λ (x : Bool). cond (x && ltb (heard (loudest may heard u)) (heard (suc u))) (suc u) (loudest may heard u)) p
      ∙ ap (λ (x : Bool). cond (b && x) (suc u) (loudest may heard u)) q

  pub better : may (u + 1) ≡ true → heard who < heard (u + 1) → u + 1 ≡ loudest may heard (u + 1)
  better p h =
      let one = add-one u in
      let more : heard (loudest may heard u) < heard (suc u) = omega (arith, ap heard so_far, ap heard one) in
      one ∙ sym (step true true (ap may (sym one) ∙ p) (lt-ltb _ _ more))

  pub no_better : may (u + 1) ≡ true → heard (u + 1) ≤ heard who → who ≡ loudest may heard (u + 1)
  no_better p h =
      let one = add-one u in
      let no_more : heard (suc u) ≤ heard (loudest may heard u) = omega (arith, ap heard so_far, ap heard one) in
      so_far ∙ sym (step true false (ap may (sym one) ∙ p) (le-ltb _ _ no_more))

  pub not_permitted : may (u + 1) ≡ false → who ≡ loudest may heard (u + 1)
  not_permitted p = so_far ∙ sym (step false _ (ap may (sym (add-one u)) ∙ p) refl)

-- ---- a user's sums: as they are defined, within what `squared` asks of them, and how loud they are
pub sums_of_lem : (re im signs : List Float) (burst user : ℕ) → 1 ≤ user → sums_at re im signs burst user ≡ sums_in re im signs burst user
unfolding sums_at
sums_of_lem re im signs burst zero known = absurd (omega arith)
sums_of_lem re im signs burst (suc k) known = refl

pub record FoundSums (re im signs : List Float) (burst user : ℕ) (s : Sums) : Type 0 where
  pub real : s.re ≡ of_int binary32 (sums_in re im signs burst user).0
  pub imaginary : s.im ≡ of_int binary32 (sums_in re im signs burst user).1
  pub real_asks : (s.re ≡ of_int binary32 (sample_of s.re)) × (nat_abs (sample_of s.re) ≤ 1048064)
  pub imaginary_asks : (s.im ≡ of_int binary32 (sample_of s.im)) × (nat_abs (sample_of s.im) ≤ 1048064)
  pub strong : square (sample_of s.re) + square (sample_of s.im) ≡ strength_in re im signs burst user

-- from what user_sums gives
module _ (re im signs : List Float) (burst user by chips : ℕ) (known : 1 ≤ user) (at : by ≡ shift_of (code_of burst) user) (long : chips ≡ (code_of burst).length)
    (s : Sums) (e : s ≡ sums_of (turned_back by (dot_of re signs by chips, dot_of im signs by chips)))
    (reals : Samples re (code_of burst).length) (imaginaries : Samples im (code_of burst).length) (ones : Signs signs (reach burst)) where
  sums_at_lem : turned_back by (dot_of re signs by chips, dot_of im signs by chips) ≡ sums_in re im signs burst user
  unfolding sums_in
  sums_at_lem =
      ap (λ (k : ℕ). turned_back k (dot_of re signs k chips, dot_of im signs k chips)) at
      ∙ ap (λ (n : ℕ). turned_back (shift_of (code_of burst) user) (dot_of re signs (shift_of (code_of burst) user) n, dot_of im signs (shift_of (code_of burst) user) n)) long

  as_sums : s ≡ sums_of (sums_in re im signs burst user)
  as_sums = e ∙ ap sums_of sums_at_lem

  pub real_is : s.re ≡ of_int binary32 (sums_in re im signs burst user).0
  unfolding sums_of
  real_is = ap (λ (x : Sums). x.re) as_sums

  pub imaginary_is : s.im ≡ of_int binary32 (sums_in re im signs burst user).1
  unfolding sums_of
  imaginary_is = ap (λ (x : Sums). x.im) as_sums

  sizes : (nat_abs (sums_in re im signs burst user).0 ≤ 1048064) × (nat_abs (sums_in re im signs burst user).1 ≤ 1048064)
  unfolding sums_in
  sizes =
      let k = shift_of (code_of burst) user in
      let n = (code_of burst).length in
      let fewer : Signs signs (k + n) = record { all = λ m h. ones.all m (omega (arith, shift_in_period burst user known)) } in
      turned_size k 1048064 (dot_of re signs k n, dot_of im signs k n) (dot_size re signs k n reals fewer (length_high burst)) (dot_size im signs k n imaginaries fewer (length_high burst))

  -- what `squared` asks of a sum, and what it gives
  asks : (z : ℤ) (x : Float) → nat_abs z ≤ 1048064 → x ≡ of_int binary32 z → (x ≡ of_int binary32 (sample_of x)) × (nat_abs (sample_of x) ≤ 1048064)
  asks z x h p =
      let i : sample_of x ≡ z = ap sample_of p ∙ reads (of_int binary32 z) z (whole_is binary32 z (omega arith)) in
      (p ∙ ap (of_int binary32) (sym i), subst (λ (y : ℤ). nat_abs y ≤ 1048064) (sym i) h)

  reads_as : (z : ℤ) (x : Float) → nat_abs z ≤ 1048064 → x ≡ of_int binary32 z → square (sample_of x) ≡ square z
  reads_as z x h p = ap square (ap sample_of p ∙ reads (of_int binary32 z) z (whole_is binary32 z (omega arith)))

  pub sums_found : FoundSums re im signs burst user s
  unfolding strength_in sums_at
  sums_found = record {
    real = real_is;
    imaginary = imaginary_is;
    real_asks = asks _ s.re sizes.0 real_is;
    imaginary_asks = asks _ s.im sizes.1 imaginary_is;
    strong =
        ap (λ (n : ℕ). n + square (sample_of s.im)) (reads_as _ s.re sizes.0 real_is)
        ∙ ap (λ (n : ℕ). square (sums_in re im signs burst user).0 + n) (reads_as _ s.im sizes.1 imaginary_is)
        ∙ ap (λ (z : ℤ × ℤ). square z.0 + square z.1) (sym (sums_of_lem re im signs burst user known));
  }

-- ---- the reply: before user u the loudest of the lower ones is heard, with its strength
pub record HeardSoFar (re im signs : List Float) (burst count u : ℕ) (best : Heard) (found : ℕ) : Type 0 where
  pub reply : heard_meant best ≡ heard_in re im signs burst (loudest_in re im signs burst count (u - 1))
  pub strong : found ≡ strength_in re im signs burst (loudest_in re im signs burst count (u - 1))

pub at_start : (re im signs : List Float) (burst count : ℕ) → HeardSoFar re im signs burst count 1 one.Nobody 0
unfolding loudest strength_in sums_at heard_as
at_start re im signs burst count = record { reply = refl; strong = refl }

module _ (re im signs : List Float) (burst count u : ℕ) (best : Heard) (found : ℕ) (so_far : HeardSoFar re im signs burst count u best found) (known : 1 ≤ u) where
  abbrev may : ℕ → Bool
  may = permitted (code_of burst) count

  abbrev heard : ℕ → ℕ
  heard = strength_in re im signs burst

  abbrev lower : ℕ
  lower = u - 1

  next : lower + 1 ≡ u
  next = omega arith

  same : u + 1 - 1 ≡ u
  same = omega arith

  heard_as_lem : (x y : Float) → heard_as u x y ≡ somebody u x y
  unfolding heard_as
  heard_as_lem x y =
      ap (λ (k : ℕ). heard_as k x y) (sym next ∙ add-one lower) ∙ ap (λ (k : ℕ). somebody k x y) (sym (add-one lower) ∙ next)

  -- user u is not permitted, or not heard better: the reply stays
  stays : loudest may heard lower ≡ loudest may heard (lower + 1) → HeardSoFar re im signs burst count (u + 1) best found
  stays e =
      let k : loudest may heard (u - 1) ≡ loudest may heard (u + 1 - 1) = e ∙ ap (loudest may heard) (next ∙ sym same) in
      record { reply = so_far.reply ∙ ap (heard_in re im signs burst) k; strong = so_far.strong ∙ ap heard k }

  pub not_asked : may u ≡ false → HeardSoFar re im signs burst count (u + 1) best found
  not_asked p = stays (not_permitted may heard lower (loudest may heard lower) refl (ap may next ∙ p))

  pub heard_no_better : may u ≡ true → (more : ℕ) → more ≡ heard u → more ≤ found → HeardSoFar re im signs burst count (u + 1) best found
  heard_no_better p more e h =
      stays (no_better may heard lower (loudest may heard lower) refl (ap may next ∙ p) (omega (arith, so_far.strong, e, ap heard next)))

  -- or it is heard better
  pub heard_better : may u ≡ true → (more : ℕ) → more ≡ heard u → found < more → (x y : Float) → x ≡ of_int binary32 (sums_in re im signs burst u).0 → y ≡ of_int binary32 (sums_in re im signs burst u).1
      → HeardSoFar re im signs burst count (u + 1) (one.User u x y) more
  heard_better p more e h x y ex ey =
      let louder = better may heard lower (loudest may heard lower) refl (ap may next ∙ p) (omega (arith, so_far.strong, e, ap heard next)) in
      let k : loudest may heard (u + 1 - 1) ≡ u = ap (loudest may heard) (same ∙ sym next) ∙ sym louder ∙ next in
      let real : x ≡ of_int binary32 (sums_at re im signs burst u).0 = ex ∙ ap (λ (z : ℤ × ℤ). of_int binary32 z.0) (sym (sums_of_lem re im signs burst u known)) in
      let imaginary : y ≡ of_int binary32 (sums_at re im signs burst u).1 = ey ∙ ap (λ (z : ℤ × ℤ). of_int binary32 z.1) (sym (sums_of_lem re im signs burst u known)) in
      record { reply = sym (heard_as_lem x y) ∙ (λ j. heard_as u (real j) (imaginary j)) ∙ ap (heard_in re im signs burst) (sym k); strong = e ∙ ap heard (sym k) }

-- by whichever way it came to
pub so : {re im signs : List Float} {burst count u : ℕ} {b best : Heard} {s found : ℕ} → HeardSoFar re im signs burst count u b s → best ≡ b → found ≡ s
    → HeardSoFar re im signs burst count u best found
so {re} {im} {signs} {burst} {count} {u} h e f = record { reply = ap heard_meant e ∙ h.reply; strong = f ∙ h.strong }

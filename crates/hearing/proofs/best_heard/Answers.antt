-- `hearing::best_heard` meets its contract: before each user the loudest of the lower ones is heard, with its strength. Assumes nothing.
use mathlib.Core.Path.{◌≡◌, refl, sym, ap, ◌∙◌}
use Prim.Native.Nat.{ℕ, ◌+◌, ◌*◌, ◌-◌, ◌%◌, ◌≤◌}
use native.Mathlib.Omega.{arith}
use borrow.Author.Tests.{ltb-true, ltb-false}
use Rattle.codes.specs.Codes.{code_of}
use Rattle.codes.specs.declared.Code.{Code}
use Rattle.codes.proofs.Numbers.{of_codes, small, shift_low, shift_in_period, length_high}
use Rattle.hearing.specs.Inside.{loudest_in, heard_in}
use Rattle.hearing.proofs.Best.{HeardSoFar, sums_found, at_start, not_asked, heard_no_better, heard_better, so}
use Rattle.hearing.proofs.best_heard.Goals as goal
use Rattle.hearing.proofs.best_heard.Goals.{then-permits+then-louder, then-permits+else-louder, else-permits}

length_is : (burst : ℕ) (d : Code) → d ≡ code_of burst → (d.length ≡ (code_of burst).length) × (d.length % 32 ≡ 0)
length_is burst d e = (ap (λ (x : Code). x.length) e, ap (λ (x : Code). x.length % 32) e ∙ of_codes (λ (x : Code). x.length % 32 ≡ 0) refl refl burst)

base_is : (burst : ℕ) (d : Code) → d ≡ code_of burst → (d.base ≡ (code_of burst).base) × (1 ≤ d.base) × (d.base ≤ 8)
base_is burst d e = (ap (λ (x : Code). x.base) e, (small d burst e).base_low, (small d burst e).base_high)

pub overflow_mul-user-end : goal.overflow_mul-user-end
overflow_mul-user-end c = let k = base_is c.args.burst _ c.code_of-code.ensures in record { fits = omega arith }

pub loop-user-init : goal.loop-user-init
loop-user-init c = let a = c.args in at_start a.re.now a.im.now a.signs.now a.burst a.count

pub user_sums-sums-requires : goal.user_sums-sums-requires
user_sums-sums-requires c =
    let a = c.args in
    let known : 1 ≤ c.loop-user.user = omega arith in
    let same = length_is a.burst _ c.code_of-code.ensures in
    let few = length_high a.burst in
    let far = shift_low a.burst c.loop-user.user known in
    let inside = shift_in_period a.burst c.loop-user.user known in
    let by = c.shift-by.ensures in
    let p = c.requires in
    record {
      count_bound = (omega arith, same.1, omega arith);
      count_in_bounds = (omega arith, omega arith, omega arith);
      samples = (record { all = λ m h. p.samples.0.all m (omega arith) }, record { all = λ m h. p.samples.1.all m (omega arith) }, record { all = λ m h. p.samples.2.all m (omega arith) });
    }

pub strength_of-found-requires : goal.strength_of-found-requires
strength_of-found-requires c =
    let p = c.requires.samples in
    let f = sums_found _ _ _ _ _ _ _ (omega arith) c.shift-by.ensures (length_is _ _ c.code_of-code.ensures).0 _ c.user_sums-sums.ensures p.0 p.1 p.2 in
    record { re_value = f.real_asks; im_value = f.imaginary_asks }

pub overflow_step-user : goal.overflow_step-user
overflow_step-user c = let k = base_is c.args.burst _ c.code_of-code.ensures in record { fits = omega arith }

pub loop-user-preserved : goal.loop-user-preserved
loop-user-preserved c =
    let inv = c.loop-user.invariant in
    let p = c.requires.samples in
    elim c.if-permits.branch [
      | then-permits+then-louder w ↦
          let f = sums_found _ _ _ _ _ _ _ (omega arith) w.shift-by.ensures (length_is _ _ c.code_of-code.ensures).0 _ w.user_sums-sums.ensures p.0 p.1 p.2 in
          so (heard_better _ _ _ _ _ _ _ _ inv (omega arith) (sym c.permits.ensures ∙ w.if-permits.true) _ (w.strength_of-found.ensures ∙ f.strong) (ltb-true _ _ (sym w.louder.ensures ∙ w.if-louder.true)) _ _ f.real f.imaginary) w.best-is w.strength-is
      | then-permits+else-louder w ↦
          let f = sums_found _ _ _ _ _ _ _ (omega arith) w.shift-by.ensures (length_is _ _ c.code_of-code.ensures).0 _ w.user_sums-sums.ensures p.0 p.1 p.2 in
          so (heard_no_better _ _ _ _ _ _ _ _ inv (omega arith) (sym c.permits.ensures ∙ w.if-permits.true) _ (w.strength_of-found.ensures ∙ f.strong) (ltb-false _ _ (sym w.louder.ensures ∙ w.if-louder.false))) w.best-is w.strength-is
      | else-permits w ↦ so (not_asked _ _ _ _ _ _ _ _ inv (omega arith) (sym c.permits.ensures ∙ w.if-permits.false)) w.best-is w.strength-is
    ]

pub returns : goal.returns
returns c = let k = base_is c.args.burst _ c.code_of-code.ensures in absurd (omega arith)

pub returns-after-permits : goal.returns-after-permits
returns-after-permits c =
    let a = c.args in
    let inv = c.loop-user.invariant in
    let p = c.requires.samples in
    let k = base_is c.args.burst _ c.code_of-code.ensures in
    let last : c.loop-user.user + 1 - 1 ≡ 2 * (code_of a.burst).base = omega arith in
    let all : HeardSoFar a.re.now a.im.now a.signs.now a.burst a.count (c.loop-user.user + 1) c.if-permits.best c.if-permits.strength =
    elim c.if-permits.branch [
      | then-permits+then-louder w ↦
          let f = sums_found _ _ _ _ _ _ _ (omega arith) w.shift-by.ensures (length_is _ _ c.code_of-code.ensures).0 _ w.user_sums-sums.ensures p.0 p.1 p.2 in
          so (heard_better _ _ _ _ _ _ _ _ inv (omega arith) (sym c.permits.ensures ∙ w.if-permits.true) _ (w.strength_of-found.ensures ∙ f.strong) (ltb-true _ _ (sym w.louder.ensures ∙ w.if-louder.true)) _ _ f.real f.imaginary) w.best-is w.strength-is
      | then-permits+else-louder w ↦
          let f = sums_found _ _ _ _ _ _ _ (omega arith) w.shift-by.ensures (length_is _ _ c.code_of-code.ensures).0 _ w.user_sums-sums.ensures p.0 p.1 p.2 in
          so (heard_no_better _ _ _ _ _ _ _ _ inv (omega arith) (sym c.permits.ensures ∙ w.if-permits.true) _ (w.strength_of-found.ensures ∙ f.strong) (ltb-false _ _ (sym w.louder.ensures ∙ w.if-louder.false))) w.best-is w.strength-is
      | else-permits w ↦ so (not_asked _ _ _ _ _ _ _ _ inv (omega arith) (sym c.permits.ensures ∙ w.if-permits.false)) w.best-is w.strength-is
    ] in
    all.reply ∙ ap (λ (n : ℕ). heard_in a.re.now a.im.now a.signs.now a.burst (loudest_in a.re.now a.im.now a.signs.now a.burst a.count n)) last

-- `correlation::user_sums` meets its contract: both sums turned back by the remainder of the shift. Assumes nothing.
use mathlib.Core.Path.{◌≡◌, ap}
use native.Mathlib.Omega.{arith}
use lib.IntN.{ℤ}
use lib.Ieee.{binary32, of_int}
use Rattle.correlation.specs.declared.Sums.{Sums}
use Rattle.correlation.specs.Inside.{dot_of, sums_of}
use Rattle.correlation.proofs.Columns.{dot_size}
use Rattle.correlation.proofs.Turning.{turned_0, turned_1, turned_2, turned_3}
use Rattle.correlation.proofs.user_sums.Goals as goal

-- ---- the two sums before they are turned: which floats they are, and how large
real_is : (d : Sums) (z : ℤ × ℤ) → d ≡ sums_of z → d.re ≡ of_int binary32 z.0
unfolding sums_of
real_is d z e = ap (λ (s : Sums). s.re) e

imaginary_is : (d : Sums) (z : ℤ × ℤ) → d ≡ sums_of z → d.im ≡ of_int binary32 z.1
unfolding sums_of
imaginary_is d z e = ap (λ (s : Sums). s.im) e

pub returns-in-0 : goal.returns-in-0
returns-in-0 c =
    let a = c.args in
    let p = c.requires in
    let A = dot_of a.re.now a.signs.now a.by a.count in
    let B = dot_of a.im.now a.signs.now a.by a.count in
    turned_0 A B _ _ a.by (real_is _ (A, B) c.dots-sums.ensures) (imaginary_is _ (A, B) c.dots-sums.ensures)
    (dot_size a.re.now a.signs.now a.by a.count p.samples.0 p.samples.2 p.count_bound.0) (dot_size a.im.now a.signs.now a.by a.count p.samples.1 p.samples.2 p.count_bound.0) c.in-0.is

pub returns-in-1 : goal.returns-in-1
returns-in-1 c =
    let a = c.args in
    let p = c.requires in
    let A = dot_of a.re.now a.signs.now a.by a.count in
    let B = dot_of a.im.now a.signs.now a.by a.count in
    turned_1 A B _ _ a.by (real_is _ (A, B) c.dots-sums.ensures) (imaginary_is _ (A, B) c.dots-sums.ensures)
    (dot_size a.re.now a.signs.now a.by a.count p.samples.0 p.samples.2 p.count_bound.0) (dot_size a.im.now a.signs.now a.by a.count p.samples.1 p.samples.2 p.count_bound.0) c.in-1.is

pub returns-in-2 : goal.returns-in-2
returns-in-2 c =
    let a = c.args in
    let p = c.requires in
    let A = dot_of a.re.now a.signs.now a.by a.count in
    let B = dot_of a.im.now a.signs.now a.by a.count in
    turned_2 A B _ _ a.by (real_is _ (A, B) c.dots-sums.ensures) (imaginary_is _ (A, B) c.dots-sums.ensures)
    (dot_size a.re.now a.signs.now a.by a.count p.samples.0 p.samples.2 p.count_bound.0) (dot_size a.im.now a.signs.now a.by a.count p.samples.1 p.samples.2 p.count_bound.0) c.in-2.is

pub returns-in_default : goal.returns-in_default
returns-in_default c =
    let a = c.args in
    let p = c.requires in
    let A = dot_of a.re.now a.signs.now a.by a.count in
    let B = dot_of a.im.now a.signs.now a.by a.count in
    turned_3 A B _ _ a.by (real_is _ (A, B) c.dots-sums.ensures) (imaginary_is _ (A, B) c.dots-sums.ensures)
    (dot_size a.re.now a.signs.now a.by a.count p.samples.0 p.samples.2 p.count_bound.0) (dot_size a.im.now a.signs.now a.by a.count p.samples.1 p.samples.2 p.count_bound.0) (omega arith)

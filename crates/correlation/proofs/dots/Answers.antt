-- `correlation::dots` meets its contract: before each turn every column has the float of its own whole-number sum; then these are added. Assumes nothing.
use borrow.Author.Rules.{rules}
use mathlib.Core.Path.{◌≡◌, refl, ap, ◌∙◌}
use mathlib.Core.List.{List}
use Prim.Native.Nat.{ℕ, ◌+◌, ◌-◌, ◌*◌, ◌^◌, ◌≤◌, ◌<◌}
use native.Mathlib.Omega.{arith}
use borrow.Author.Count.{below_none}
use lib.ListN.{get_or, set, replicate, length-set, get_or-replicate}
use lib.Ieee.{Float, nan, binary32, add, mul, of_int, of_bits}
use Rattle.sums.specs.Totals.{total}
use Rattle.sums.proofs.Totals.{column}
use Rattle.samples.specs.Samples.{sample_of}
use Rattle.correlation.specs.Inside.{Samples, Signs, Wholes, term, dot_of, sums_of}
use Rattle.correlation.proofs.Columns.{some_more, none_yet, column_turn, columns_whole, columns_total}
use Rattle.correlation.proofs.dots.Invariants.{Columns, More}
use Rattle.correlation.proofs.dots.Goals as goal

-- ---- the columns of the invariants: at first, within a row and behind it
at_first : (z b : List Float) (by : ℕ) → Columns z b by 0 (replicate 32 (of_bits binary32 0))
at_first z b by = (refl, none_yet (replicate 32 (of_bits binary32 0)) (term z b by) (λ k h. get_or-replicate 32 k (of_bits binary32 0) nan h))

begun : (z b : List Float) (by t : ℕ) (columns : List Float) → Columns z b by t columns → More z b by t 0 columns
begun z b by t columns held = (held.0, (below_none _, (λ k low high. held.1 k high)))

more : (z b : List Float) (by count : ℕ) → Samples z count → Signs b (by + count) → (m l t : ℕ) (columns : List Float) → m ≡ 32 * t → m + 32 ≤ count → count ≤ 512 → l < 32 → More z b by t l columns
    → More z b by t (l + 1) (set columns l (add binary32 (get_or columns l nan) (mul binary32 (get_or z (m + l) nan) (get_or b (by + m + l) nan))))
more z b by count samples signs m l t columns e room few low held =
    (length-set columns l _ ∙ held.0, some_more columns _ _ l _ held.0 low (column_turn z b by count samples signs m l t _ e room few low (held.1.1 l (omega arith) low)) held.1)

done : (z b : List Float) (by t u l : ℕ) (columns : List Float) → l ≡ 32 → t + 1 ≡ u → More z b by t l columns → Columns z b by u columns
done z b by t u l columns all rows held = (held.0, (λ k h. held.1.0 k (omega arith) ∙ ap (λ (n : ℕ). of_int binary32 (column 32 (term z b by) k n)) rows))

-- ---- when no float is left: the columns of z are whole numbers, and their total is the sum
module _ (z b : List Float) (by count : ℕ) (samples : Samples z count) (signs : Signs b (by + count)) (few : count ≤ 512) (t : ℕ) (columns : List Float) (all : 32 * t ≡ count) (held : Columns z b by t columns) where
  all_whole : Wholes columns 32 (2 ^ 18)
  all_whole = columns_whole z b by count samples signs t columns all few held.1

  all_total : total (λ (l : ℕ). sample_of (get_or columns (l - 1) nan)) 32 ≡ dot_of z b by count
  all_total = columns_total z b by count samples signs t columns all few held.1

pub loop-t-init : goal.loop-t-init
loop-t-init c =
    let a = c.args in
    (at_first a.x.now a.b.now a.by, at_first a.y.now a.b.now a.by)

pub loop-l-init : goal.loop-l-init
loop-l-init c =
    let a = c.args in
    let inv = c.loop-t.invariant in
    (begun a.x.now a.b.now a.by c.loop-t.t c.loop-t.real inv.0, begun a.y.now a.b.now a.by c.loop-t.t c.loop-t.imaginary inv.1)

pub loop-l-preserved : goal.loop-l-preserved
loop-l-preserved c =
    let a = c.args in
    let p = c.requires in
    let t = c.loop-t.t in
    let inv = c.loop-l.invariant in
    let room : 32 * t + 32 ≤ a.count = omega arith in
    let low : c.loop-l.l < 32 = omega arith in (
      more a.x.now a.b.now a.by a.count p.samples.0 p.samples.2 (32 * t) c.loop-l.l t c.loop-l.real refl room p.count_bound.0 low inv.0,
      more a.y.now a.b.now a.by a.count p.samples.1 p.samples.2 (32 * t) c.loop-l.l t c.loop-l.imaginary refl room p.count_bound.0 low inv.1,
    )

pub loop-t-preserved : goal.loop-t-preserved
loop-t-preserved c =
    let a = c.args in
    let t = c.loop-t.t in
    let inv = c.loop-l.invariant in
    let all : c.loop-l.l ≡ 32 = omega arith in (
      done a.x.now a.b.now a.by t (t + 1) c.loop-l.l c.loop-l.real all refl inv.0,
      done a.y.now a.b.now a.by t (t + 1) c.loop-l.l c.loop-l.imaginary all refl inv.1,
    )

pub joined-re-requires : goal.joined-re-requires
joined-re-requires c =
    let a = c.args in
    let p = c.requires in
    let inv = c.loop-t.invariant in
    let all : 32 * c.loop-t.t ≡ a.count = omega arith in
    (search rules, all_whole a.x.now a.b.now a.by a.count p.samples.0 p.samples.2 p.count_bound.0 c.loop-t.t c.loop-t.real all inv.0)

pub joined-im-requires : goal.joined-im-requires
joined-im-requires c =
    let a = c.args in
    let p = c.requires in
    let inv = c.loop-t.invariant in
    let all : 32 * c.loop-t.t ≡ a.count = omega arith in
    (search rules, all_whole a.y.now a.b.now a.by a.count p.samples.1 p.samples.2 p.count_bound.0 c.loop-t.t c.loop-t.imaginary all inv.1)

pub returns : goal.returns
unfolding sums_of
returns c =
    let a = c.args in
    let s = c.requires in
    let inv = c.loop-t.invariant in
    let all : 32 * c.loop-t.t ≡ a.count = omega arith in
    let p =
    c.joined-re.ensures ∙ ap (of_int binary32) (all_total a.x.now a.b.now a.by a.count s.samples.0 s.samples.2 s.count_bound.0 c.loop-t.t c.loop-t.real all inv.0) in
    let q =
    c.joined-im.ensures ∙ ap (of_int binary32) (all_total a.y.now a.b.now a.by a.count s.samples.1 s.samples.2 s.count_bound.0 c.loop-t.t c.loop-t.imaginary all inv.1) in
    λ j. record { re = p j; im = q j }

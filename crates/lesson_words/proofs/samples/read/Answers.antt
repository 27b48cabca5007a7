-- `lesson_words::samples::read` meets its contract: what was read is written, and the rest is to be read.
-- Assumes nothing.
use mathlib.Core.Path.{◌≡◌, sym, ap, ◌∙◌}
use native.Mathlib.Omega.{arith}
use borrow.Author.Tests.{eq-eqb, ne_eqb}
use Prim.Native.Nat.{ℕ, ◌-◌, ◌<◌}
use lib.ListN.{length, take, drop}
use Rattle.std.proofs.lemmas.List.{take-set}
use Rattle.lesson_words.specs.Samples.{sample_word, float_of}
use Rattle.lesson_words.proofs.Sampled.{none_at, some_at, is_signed, sample_small, are_start, row_start, are_none, are_off, are_on, are_end, row_none, row_on, row_end}
use Rattle.lesson_words.proofs.samples.read.Goals as goal

pub loop-n-init : goal.loop-n-init
loop-n-init c =
    let a = c.args in
    let l = drop a.at a.text.now in
    (c.requires, are_start (length a.row.now) l, row_start (length a.row.now) l a.row.now)

pub returns-then-from-to : goal.returns-then-from-to
returns-then-from-to c =
    let a = c.args in
    let l = c.loop-n in
    let w = c.word-w in
    let h = c.loop-n-test.true in
    let z : w.result.to - w.result.from ≡ 0 = omega (arith, c.if-from-to.true) in
    let e = none_at a.text.now (drop l.to a.text.now) w.result.from w.result.to w.ensures.0 w.ensures.1 w.ensures.2 ∙ eq-eqb _ _ z in
    (are_none _ _ _ h _ e l.invariant.1, omega (arith, h), take-set _ _ _ ∙ row_none _ _ _ h _ _ l.invariant.2 e)

pub returns-in_err-meant : goal.returns-in_err-meant
returns-in_err-meant c =
    let a = c.args in
    let l = c.loop-n in
    let w = c.word-w in
    let h = c.loop-n-test.true in
    let e = some_at a.text.now (drop l.to a.text.now) w.result.from w.result.to w.ensures.0 w.ensures.1 c.if-from-to.false w.ensures.2 in
    rw c.from_residual.ensures (are_off _ _ _ h _ e (sym c.in_err-meant.was ∙ c.meant.ensures ∙ ap sample_word w.ensures.2) l.invariant.1)

pub float-requires : goal.float-requires
float-requires c = sample_small _ _ (sym c.in_ok-meant.was ∙ c.meant.ensures)

pub loop-n-preserved : goal.loop-n-preserved
loop-n-preserved c =
    let a = c.args in
    let l = c.loop-n in
    let w = c.word-w in
    let h = c.loop-n-test.true in
    let k : l.n < length l.row = omega (arith, h, l.auto.row) in
    let e = some_at a.text.now (drop l.to a.text.now) w.result.from w.result.to w.ensures.0 w.ensures.1 c.if-from-to.false w.ensures.2 in
    let q = sym c.in_ok-meant.was ∙ c.meant.ensures ∙ ap sample_word w.ensures.2 in
    let x = c.float.ensures ∙ ap float_of (is_signed _ _ q) in
    (w.ensures.1, are_on _ _ _ h _ _ _ e q w.ensures.3 l.invariant.1, row_on _ _ _ h _ _ l.invariant.2 _ _ k e x w.ensures.3)

pub returns-then-further-ne0 : goal.returns-then-further-ne0
returns-then-further-ne0 c =
    let a = c.args in
    let l = c.loop-n in
    let w = c.word-behind in
    let e = none_at a.text.now (drop l.to a.text.now) w.result.from w.result.to w.ensures.0 w.ensures.1 w.ensures.2 in
    are_end _ _ _ c.loop-n-test.false _ _ (e ∙ ne_eqb _ _ c.if-further-ne0.true) l.invariant.1

pub returns : goal.returns
returns c =
    let a = c.args in
    let l = c.loop-n in
    let w = c.word-behind in
    let h = c.loop-n-test.false in
    let e = none_at a.text.now (drop l.to a.text.now) w.result.from w.result.to w.ensures.0 w.ensures.1 w.ensures.2 in
    let n : length l.row ≡ l.n = omega (arith, h, l.auto.row, l.auto.n-end) in
    (are_end _ _ _ h _ _ (e ∙ eq-eqb _ _ c.if-further-ne0.false) l.invariant.1, omega (arith, l.auto.row), ap (λ (k : ℕ). take k l.row) n ∙ row_end _ _ _ h _ _ l.invariant.2)

-- `lesson_words::samples::meant` meets its contract: what stands behind the minus sign is a size.
-- Assumes nothing.
use mathlib.Core.Path.{◌≡◌, sym, ap, ◌∙◌}
use Rattle.lesson_words.specs.Samples.{size_of, unsigned}
use Rattle.lesson_words.proofs.Sampled.{minus_some, with_minus, without_minus, no_sample, a_sample}
use Rattle.lesson_words.proofs.samples.meant.Goals as goal
use Rattle.lesson_words.proofs.samples.meant.Goals.{then-minus, else-minus}

pub slice_bounds-digits-count : goal.slice_bounds-digits-count
slice_bounds-digits-count c = minus_some _ (sym c.has_minus-minus.ensures ∙ c.if-minus.true)

pub slice_bounds-digits-start : goal.slice_bounds-digits-start
slice_bounds-digits-start c = minus_some _ (sym c.has_minus-minus.ensures ∙ c.if-minus.true)

pub returns-in_err-size : goal.returns-in_err-size
returns-in_err-size c =
    let digits : c.if-minus.digits.now ≡ unsigned c.args.word.now =
    elim c.if-minus.branch [ then-minus w ↦ with_minus _ _ (sym c.has_minus-minus.ensures ∙ w.if-minus.true) (ap (λ b. b.now) w.digits-is) | else-minus w ↦ without_minus _ _ (sym c.has_minus-minus.ensures ∙ w.if-minus.false) (ap (λ b. b.now) w.digits-is) ] in
    c.from_residual.ensures ∙ no_sample _ _ (c.size.ensures ∙ ap size_of digits) c.in_err-size.was

pub returns : goal.returns
returns c =
    let digits : c.if-minus.digits.now ≡ unsigned c.args.word.now =
    elim c.if-minus.branch [ then-minus w ↦ with_minus _ _ (sym c.has_minus-minus.ensures ∙ w.if-minus.true) (ap (λ b. b.now) w.digits-is) | else-minus w ↦ without_minus _ _ (sym c.has_minus-minus.ensures ∙ w.if-minus.false) (ap (λ b. b.now) w.digits-is) ] in
    a_sample _ _ (c.size.ensures ∙ ap size_of digits) _ _ c.has_minus-minus.ensures c.in_ok-size.was

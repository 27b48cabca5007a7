-- `lesson_words::words::word_start` meets its contract: all that was passed are blanks.
-- Assumes nothing.
use mathlib.Core.Bool.{true, false}
use mathlib.Core.Path.{◌≡◌}
use borrow.Author.Tests.{tests}
use Rattle.std.proofs.Common.{rules}
use Rattle.std.proofs.lemmas.Iterator.{IsFirst-from_position, YieldsList-from_slice}
use Rattle.lesson_words.specs.Words.{is_ink}
use Rattle.lesson_words.proofs.Text.{found, nowhere}
use Rattle.lesson_words.proofs.words.word_start.Goals as goal

pub returns-in-Some : goal.returns-in-Some
unfolding is_ink
returns-in-Some c =
    let a = c.args in
    found is_ink a.text.now a.from c.requires _
    (IsFirst-from_position _ _ _ (λ x. is_ink x ≡ true) (λ x. is_ink x ≡ false) c.position.ensures.ran (YieldsList-from_slice _ c.iter.ensures.rest) (λ x q k. search (rules, tests)) (λ x q k. search (rules, tests)))
    _ c.in-Some.is

pub returns-in-None : goal.returns-in-None
unfolding is_ink
returns-in-None c =
    let a = c.args in
    nowhere is_ink a.text.now a.from c.requires _
    (IsFirst-from_position _ _ _ (λ x. is_ink x ≡ true) (λ x. is_ink x ≡ false) c.position.ensures.ran (YieldsList-from_slice _ c.iter.ensures.rest) (λ x q k. search (rules, tests)) (λ x q k. search (rules, tests)))
    c.in-None.is

-- `lesson_words::words::find` meets its contract: nothing that was passed met the test.
-- Assumes nothing.
use mathlib.Core.Bool.{true, false}
use mathlib.Core.Path.{◌≡◌}
use borrow.Author.Tests.{tests}
use Rattle.std.proofs.Common.{rules}
use Rattle.std.proofs.lemmas.Iterator.{IsFirst-from_position, YieldsList-from_slice}
use Rattle.lesson_words.specs.Words.{is_byte}
use Rattle.lesson_words.proofs.Text.{found, nowhere}
use Rattle.lesson_words.proofs.words.find.Goals as goal

pub returns-in-Some : goal.returns-in-Some
unfolding is_byte
returns-in-Some c =
    let a = c.args in
    found (is_byte a.byte) a.bytes.now a.from c.requires _
    (IsFirst-from_position _ _ _ (λ x. is_byte a.byte x ≡ true) (λ x. is_byte a.byte x ≡ false) c.position.ensures.ran (YieldsList-from_slice _ c.iter.ensures.rest) (λ x q k. search (rules, tests)) (λ x q k. search (rules, tests)))
    _ c.in-Some.is

pub returns-in-None : goal.returns-in-None
unfolding is_byte
returns-in-None c =
    let a = c.args in
    nowhere (is_byte a.byte) a.bytes.now a.from c.requires _
    (IsFirst-from_position _ _ _ (λ x. is_byte a.byte x ≡ true) (λ x. is_byte a.byte x ≡ false) c.position.ensures.ran (YieldsList-from_slice _ c.iter.ensures.rest) (λ x q k. search (rules, tests)) (λ x q k. search (rules, tests)))
    c.in-None.is

-- `plans::place_named` meets its contract: the first that is named, if any.
-- Assumes nothing.
use borrow.Author.Rules.{rules}
use borrow.Author.Tests.{tests}
use Rattle.std.proofs.lemmas.Iterator.{IsFirst-from_position, YieldsList-from_slice}
use Rattle.plans.proofs.Named.{Yes, No, found_place, found_none}
use Rattle.plans.proofs.place_named.Goals as goal

pub returns-clause-place : goal.returns-clause-place
returns-clause-place c =
    let a = c.args in
    found_place a.timeslot a.factor a.index a.list.now c.position.result
    (IsFirst-from_position _ _ _ (Yes a.timeslot a.factor a.index) (No a.timeslot a.factor a.index) c.position.ensures.ran
    (YieldsList-from_slice a.list.now cc) (λ x q k. search (rules, tests)) (λ x q k. search (rules, tests)))

pub returns-clause-none : goal.returns-clause-none
returns-clause-none c =
    let a = c.args in
    found_none a.timeslot a.factor a.index a.list.now c.position.result
    (IsFirst-from_position _ _ _ (Yes a.timeslot a.factor a.index) (No a.timeslot a.factor a.index) c.position.ensures.ran
    (YieldsList-from_slice a.list.now cc) (λ x q k. search (rules, tests)) (λ x q k. search (rules, tests)))

-- What a reply says of a timeslot is all that it holds. Cited by the crates whose promises are about what `summaries::summary` answered. Assumes nothing.
use mathlib.Core.Path.{◌≡◌, refl}
use Rattle.std.specs.Prelude.{Result, Ok, Err}
use Rattle.refusals.specs.declared.Refusal.{Refusal}
use Rattle.refusals.specs.Refusals.{said, said_as}
use Rattle.summaries.specs.declared.Glance.{Glance}
use Rattle.summaries.specs.Summaries.{glance_said}

pub said_whole : (r : Result Glance Refusal) → said_as glance_said r ≡ said r
unfolding glance_said
said_whole (Ok g) = refl
said_whole (Err r) = refl

-- A test passes where its number is 0. Cited by the proofs of may_stand and settings_pass.
-- Assumes nothing.
use mathlib.Core.Path.{◌≡◌, refl, sym}
use lib.Dec.{eqb}
use borrow.Author.Tests.{ne_eqb}
use Rattle.std.specs.Prelude.{Result, Ok, Err}
use Rattle.std.specs.Result.{is_ok}
use Rattle.refusals.specs.declared.Refusal.{Refusal}
use Rattle.refusals.specs.Refusals.{number_of, refusal_in}
use Rattle.refusals.proofs.Numbers.{number_not_0}

pub passed_number : (r : Result Unit Refusal) → is_ok r ≡ eqb (refusal_in r) 0
passed_number (Ok v) = refl
passed_number (Err e) = sym (ne_eqb (number_of e) 0 (number_not_0 e))

-- What a reply made of a call's answer says is what the call promises. Cited by the proofs of the calls.
-- Assumes nothing.
use Rattle.std.proofs.Common.{◌≡◌, Result, sym, ap, ◌∙◌}
use Rattle.std.specs.Result.{IsErrAnd}
use Rattle.std.proofs.lemmas.Result.{err_from_is_err_and}
use Rattle.refusals.specs.declared.Refusal.{Refusal}
use Rattle.refusals.specs.Refusals.{Answer, refused, answered, number_of, said}

-- a call answered x, which means what it must; in the case k the reply was made of what k means
pub made_of : {A R B : Type 0} (reply : Answer A → Answer B) (meant : R → A) {x k : R} {must : Answer A} → x ≡ k → answered (meant x) ≡ must → reply (answered (meant k)) ≡ reply must
made_of reply meant met promised = ap (λ y. reply (answered (meant y))) (sym met) ∙ ap reply promised

-- a refusal is handed on as it is
pub passed_on : {B : Type 0} (r : Result B Refusal) (e : Refusal) {must : Answer B} → IsErrAnd r (λ y. y ≡ e) → refused (number_of e) ≡ must → said r ≡ must
passed_on r e h q = let p = err_from_is_err_and r h in rw (p.1, p.2) q

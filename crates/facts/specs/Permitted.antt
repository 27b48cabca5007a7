-- Document 02, C-13: the users of a wide harbour, and how far apart shifts lie. Cited by Permitted,
-- Apart and Shifts of proofs/. Assumes nothing.
use Rattle.std.specs.Prelude.{cond, List, [], ◌∷◌, ◌⊎◌, ℕ, ◌+◌, ◌*◌, ◌≤◌, eqb}
use Rattle.codes.specs.declared.Code.{Code}

-- "only odd users up to K', so users 1, 3, 5, 7"
unfoldable pub wide_users : List ℕ
wide_users = 1 ∷ 3 ∷ 5 ∷ 7 ∷ []

-- two places on a circle of P lie at least d apart, also round it: so much lies between them, and
-- between each and the other a round further
unfoldable pub Apart : ℕ → ℕ → ℕ → ℕ → Type 0
Apart P d s t = ((s + d ≤ t) ⊎ (t + d ≤ s)) × ((s + d ≤ t + P) × (t + d ≤ s + P))

-- how far the shifts of a count's users lie apart at least: half a step under 2K', a step under K',
-- two steps under the count of the odd users (and under a number that is no count: it has no users)
unfoldable pub least_apart : Code → ℕ → ℕ
least_apart c count =
    cond (eqb count (2 * c.base)) c.half (cond (eqb count c.base) c.step (2 * c.step))

-- Document 01, "Refusal numbers": the refusals that depend on numbers alone, as tables read from the top. Each call's own table (specs/Calls.antt of its crate)
-- begins with one of these. Assumes nothing.
use Rattle.std.specs.Prelude.{◌||◌, [], ◌∷◌, ℕ}
use Rattle.refusals.specs.Refusals.{Refusals}
use Rattle.conditions.specs.declared.Direction.{Direction}
use Rattle.conditions.specs.Conditions.{bad_cell, bad_type, bad_count, bad_user, bad_booked_user, bad_timeslot, bad_factor, bad_code, bad_down_factor, bad_down_type, bad_control, bad_beacon, bad_pich}

-- what names a user's midamble: "one midamble chip 1 to 4 and 10, a whole midamble 1 to 4 and 11"
unfoldable pub user_refusals : ℕ → ℕ → ℕ → ℕ → Refusals
user_refusals cell burst count user =
    (1, bad_cell cell) ∷
    (2, bad_type burst) ∷
    (3, bad_count burst count) ∷
    (4, bad_user burst count user) ∷ []

-- "parts of a timeslot, and what lies at a chip, 2, 6 (factor and direction only), 7, 8, 10"
unfoldable pub parts_refusals : ℕ → Direction → ℕ → ℕ → ℕ → Refusals
parts_refusals burst direction factor tfci tpc =
    (2, bad_type burst) ∷
    (6, bad_factor factor || bad_down_factor direction factor) ∷
    (7, bad_down_type direction burst) ∷
    (8, bad_control direction tfci tpc) ∷ []

-- "paging 2, 10, 11": what all four calls begin with
unfoldable pub pich_refusals : ℕ → ℕ → Refusals
pich_refusals burst L = (2, bad_type burst) ∷ (10, bad_pich burst L) ∷ []

-- "every booking passes 2 and 4 to 8"
unfoldable pub form_refusals : ℕ → Direction → ℕ → ℕ → ℕ → ℕ → ℕ → ℕ → Refusals
form_refusals timeslot direction burst factor index user tfci tpc =
    (2, bad_type burst) ∷
    (4, bad_booked_user burst user) ∷
    (5, bad_timeslot timeslot) ∷
    (6, bad_code factor index || bad_down_factor direction factor) ∷
    (7, bad_down_type direction burst) ∷
    (8, bad_control direction tfci tpc) ∷ []

-- "every open seat's settings pass 1, 3 (no 0 left) and 9"
unfoldable pub settings_refusals : ℕ → ℕ → ℕ → ℕ → ℕ → Refusals
settings_refusals cell case k long short =
    (1, bad_cell cell) ∷
    (3, bad_count 1 long || bad_count 2 short) ∷
    (9, bad_beacon case k) ∷ []

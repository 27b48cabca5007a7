-- No test of a condition asks anything of its caller (`Pre` holds of everything), and no second answer satisfies its promise (`Post`): both as
-- rattle reads them off the source, at lifetimes κs, arguments a, answer r and exit s. Assumes nothing.
use mathlib.Core.Path.{◌≡◌, sym, ◌∙◌}
use Rattle.conditions.proofs.Direction.is_down.Reads as is_down
use Rattle.conditions.proofs.bad_cell.Reads as bad-cell
use Rattle.conditions.proofs.bad_type.Reads as bad-type
use Rattle.conditions.proofs.bad_count.Reads as bad-count
use Rattle.conditions.proofs.bad_user.Reads as bad-user
use Rattle.conditions.proofs.bad_booked_user.Reads as bad-booked-user
use Rattle.conditions.proofs.bad_timeslot.Reads as bad-timeslot
use Rattle.conditions.proofs.bad_factor.Reads as bad-factor
use Rattle.conditions.proofs.bad_code.Reads as bad-code
use Rattle.conditions.proofs.bad_down_factor.Reads as bad-down-factor
use Rattle.conditions.proofs.bad_down_type.Reads as bad-down-type
use Rattle.conditions.proofs.bad_control.Reads as bad-control
use Rattle.conditions.proofs.bad_beacon.Reads as bad-beacon
use Rattle.conditions.proofs.bad_pich.Reads as bad-pich
use Rattle.conditions.proofs.bad_frames.Reads as bad-frames
use Rattle.conditions.proofs.bad_level.Reads as bad-level
use Rattle.conditions.proofs.bad_place.Reads as bad-place

pub is_down_asks_nothing : (κs : _) (a : _) → is_down.Pre κs a
is_down_asks_nothing κs a = tt

pub is_down_unique : (κs : _) (a : _) (r r' : _) (s s' : _) → is_down.Post κs a r s → is_down.Post κs a r' s' → r ≡ r'
is_down_unique κs a r r' s s' p q = p ∙ sym q

pub bad_cell_asks_nothing : (κs : _) (a : _) → bad-cell.Pre κs a
bad_cell_asks_nothing κs a = tt

pub bad_cell_unique : (κs : _) (a : _) (r r' : _) (s s' : _) → bad-cell.Post κs a r s → bad-cell.Post κs a r' s' → r ≡ r'
bad_cell_unique κs a r r' s s' p q = p ∙ sym q

pub bad_type_asks_nothing : (κs : _) (a : _) → bad-type.Pre κs a
bad_type_asks_nothing κs a = tt

pub bad_type_unique : (κs : _) (a : _) (r r' : _) (s s' : _) → bad-type.Post κs a r s → bad-type.Post κs a r' s' → r ≡ r'
bad_type_unique κs a r r' s s' p q = p ∙ sym q

pub bad_count_asks_nothing : (κs : _) (a : _) → bad-count.Pre κs a
bad_count_asks_nothing κs a = tt

pub bad_count_unique : (κs : _) (a : _) (r r' : _) (s s' : _) → bad-count.Post κs a r s → bad-count.Post κs a r' s' → r ≡ r'
bad_count_unique κs a r r' s s' p q = p ∙ sym q

pub bad_user_asks_nothing : (κs : _) (a : _) → bad-user.Pre κs a
bad_user_asks_nothing κs a = tt

pub bad_user_unique : (κs : _) (a : _) (r r' : _) (s s' : _) → bad-user.Post κs a r s → bad-user.Post κs a r' s' → r ≡ r'
bad_user_unique κs a r r' s s' p q = p ∙ sym q

pub bad_booked_user_asks_nothing : (κs : _) (a : _) → bad-booked-user.Pre κs a
bad_booked_user_asks_nothing κs a = tt

pub bad_booked_user_unique : (κs : _) (a : _) (r r' : _) (s s' : _) → bad-booked-user.Post κs a r s → bad-booked-user.Post κs a r' s' → r ≡ r'
bad_booked_user_unique κs a r r' s s' p q = p ∙ sym q

pub bad_timeslot_asks_nothing : (κs : _) (a : _) → bad-timeslot.Pre κs a
bad_timeslot_asks_nothing κs a = tt

pub bad_timeslot_unique : (κs : _) (a : _) (r r' : _) (s s' : _) → bad-timeslot.Post κs a r s → bad-timeslot.Post κs a r' s' → r ≡ r'
bad_timeslot_unique κs a r r' s s' p q = p ∙ sym q

pub bad_factor_asks_nothing : (κs : _) (a : _) → bad-factor.Pre κs a
bad_factor_asks_nothing κs a = tt

pub bad_factor_unique : (κs : _) (a : _) (r r' : _) (s s' : _) → bad-factor.Post κs a r s → bad-factor.Post κs a r' s' → r ≡ r'
bad_factor_unique κs a r r' s s' p q = p ∙ sym q

pub bad_code_asks_nothing : (κs : _) (a : _) → bad-code.Pre κs a
bad_code_asks_nothing κs a = tt

pub bad_code_unique : (κs : _) (a : _) (r r' : _) (s s' : _) → bad-code.Post κs a r s → bad-code.Post κs a r' s' → r ≡ r'
bad_code_unique κs a r r' s s' p q = p ∙ sym q

pub bad_down_factor_asks_nothing : (κs : _) (a : _) → bad-down-factor.Pre κs a
bad_down_factor_asks_nothing κs a = tt

pub bad_down_factor_unique : (κs : _) (a : _) (r r' : _) (s s' : _) → bad-down-factor.Post κs a r s → bad-down-factor.Post κs a r' s' → r ≡ r'
bad_down_factor_unique κs a r r' s s' p q = p ∙ sym q

pub bad_down_type_asks_nothing : (κs : _) (a : _) → bad-down-type.Pre κs a
bad_down_type_asks_nothing κs a = tt

pub bad_down_type_unique : (κs : _) (a : _) (r r' : _) (s s' : _) → bad-down-type.Post κs a r s → bad-down-type.Post κs a r' s' → r ≡ r'
bad_down_type_unique κs a r r' s s' p q = p ∙ sym q

pub bad_control_asks_nothing : (κs : _) (a : _) → bad-control.Pre κs a
bad_control_asks_nothing κs a = tt

pub bad_control_unique : (κs : _) (a : _) (r r' : _) (s s' : _) → bad-control.Post κs a r s → bad-control.Post κs a r' s' → r ≡ r'
bad_control_unique κs a r r' s s' p q = p ∙ sym q

pub bad_beacon_asks_nothing : (κs : _) (a : _) → bad-beacon.Pre κs a
bad_beacon_asks_nothing κs a = tt

pub bad_beacon_unique : (κs : _) (a : _) (r r' : _) (s s' : _) → bad-beacon.Post κs a r s → bad-beacon.Post κs a r' s' → r ≡ r'
bad_beacon_unique κs a r r' s s' p q = p ∙ sym q

pub bad_pich_asks_nothing : (κs : _) (a : _) → bad-pich.Pre κs a
bad_pich_asks_nothing κs a = tt

pub bad_pich_unique : (κs : _) (a : _) (r r' : _) (s s' : _) → bad-pich.Post κs a r s → bad-pich.Post κs a r' s' → r ≡ r'
bad_pich_unique κs a r r' s s' p q = p ∙ sym q

pub bad_frames_asks_nothing : (κs : _) (a : _) → bad-frames.Pre κs a
bad_frames_asks_nothing κs a = tt

pub bad_frames_unique : (κs : _) (a : _) (r r' : _) (s s' : _) → bad-frames.Post κs a r s → bad-frames.Post κs a r' s' → r ≡ r'
bad_frames_unique κs a r r' s s' p q = p ∙ sym q

pub bad_level_asks_nothing : (κs : _) (a : _) → bad-level.Pre κs a
bad_level_asks_nothing κs a = tt

pub bad_level_unique : (κs : _) (a : _) (r r' : _) (s s' : _) → bad-level.Post κs a r s → bad-level.Post κs a r' s' → r ≡ r'
bad_level_unique κs a r r' s s' p q = p ∙ sym q

pub bad_place_asks_nothing : (κs : _) (a : _) → bad-place.Pre κs a
bad_place_asks_nothing κs a = tt

pub bad_place_unique : (κs : _) (a : _) (r r' : _) (s s' : _) → bad-place.Post κs a r s → bad-place.Post κs a r' s' → r ≡ r'
bad_place_unique κs a r r' s s' p q = p ∙ sym q

-- The f32 of zero, as code writes it, is the plain zero of the definitions. Cited by the proofs of the answers with floats.
-- Assumes nothing.
use mathlib.Core.Path.{◌≡◌}
use lib.Ieee.{binary32, of_bits}
use Rattle.std.specs.Prelude.{pos}
use Rattle.floats.proofs.Whole.{zero_plain}
use Rattle.signal_card.specs.SignalCard.{f32_of}

pub plain : of_bits binary32 0 ≡ f32_of (pos 0)
unfolding f32_of
plain = zero_plain.0

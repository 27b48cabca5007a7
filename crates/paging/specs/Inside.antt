-- What `Frame::of` promises the four calls of a frame. No reader of a public promise has to believe it.
-- Assumes nothing.
use Rattle.std.specs.Prelude.{◌≡◌, ℕ}
use Rattle.paging_bits.specs.Bits.{per_frame}
use Rattle.paging.specs.declared.frame.Frame.{Frame}
use Rattle.paging.specs.Paging.{half_of}

-- a frame of this burst type, with indicators of this length
pub record IsFrameOf (burst L : ℕ) (f : Frame) : Type 0 where
  pub length_is : f.length ≡ L
  pub per_is : f.per ≡ per_frame L (half_of burst)
  pub half_is : f.half ≡ half_of burst

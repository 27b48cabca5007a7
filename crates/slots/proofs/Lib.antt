pub mod OneMore
pub mod ByMasks
pub mod Summary

pub mod Named
pub mod Carried
pub mod Summed
pub mod Plans
pub mod Kept
pub mod Cancelled
pub mod Moved

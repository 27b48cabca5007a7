pub mod Whole
pub mod Sums
pub mod Large

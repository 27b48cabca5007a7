pub mod Passed
pub mod Unique

pub mod Listed
pub mod Unique
pub mod Putting

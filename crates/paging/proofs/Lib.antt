pub mod Passed
pub mod Places
pub mod Unique

pub mod Answered
pub mod Unique

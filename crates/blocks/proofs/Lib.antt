pub mod Chips
pub mod Answers
pub mod Unique

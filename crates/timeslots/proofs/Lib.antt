pub mod Accepted
pub mod Sizes
pub mod Answers
pub mod Unique

pub mod Square
pub mod Best
pub mod Answers
pub mod Unique
pub mod Exact

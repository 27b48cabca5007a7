pub mod Answers
pub mod Parts
pub mod Pages
pub mod Pairs
pub mod Blocks
pub mod Summaries
pub mod Air

pub mod Repeats
pub mod Digits
pub mod Steps
pub mod Rows

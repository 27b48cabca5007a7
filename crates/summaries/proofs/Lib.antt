pub mod Answered
pub mod Said
pub mod Unique

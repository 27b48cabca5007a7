pub mod Spans
pub mod Cover
pub mod Agree

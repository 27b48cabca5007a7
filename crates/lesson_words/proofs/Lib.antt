pub mod Text
pub mod Digits
pub mod Reading
pub mod Sampled
pub mod Table

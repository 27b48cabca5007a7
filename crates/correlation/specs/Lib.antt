pub mod Correlation
pub mod Inside

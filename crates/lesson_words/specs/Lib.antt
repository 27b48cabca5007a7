pub mod Words
pub mod Numbers
pub mod Samples
pub mod Inside

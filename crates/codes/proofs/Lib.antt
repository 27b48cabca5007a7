pub mod Numbers
pub mod Permitted
pub mod Unique

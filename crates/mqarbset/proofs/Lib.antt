pub mod Read
pub mod Neither
pub mod Unique

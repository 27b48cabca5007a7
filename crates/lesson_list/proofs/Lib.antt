pub mod Sized
pub mod Agrees
pub mod Unique

pub mod Hearing
pub mod Calls
pub mod Inside

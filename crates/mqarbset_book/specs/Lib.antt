pub mod Mirror
pub mod Inside
pub mod Calls

pub mod Book
pub mod Conditions
pub mod Calls
pub mod Inside

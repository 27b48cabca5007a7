pub mod Slots
pub mod Inside

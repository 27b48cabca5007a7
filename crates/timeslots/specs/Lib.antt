pub mod Timeslots
pub mod Calls
pub mod Inside

pub mod Conditions
pub mod Seats

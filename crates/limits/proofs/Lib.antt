pub mod Computed
pub mod Reached

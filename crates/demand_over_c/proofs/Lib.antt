pub mod Mirrored
pub mod Step
pub mod Turns
pub mod Parts
pub mod Untouched
pub mod DemandOverC
pub mod Exports

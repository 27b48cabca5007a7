pub mod Leaves
pub mod Formed
pub mod Types
pub mod Order
pub mod Clash

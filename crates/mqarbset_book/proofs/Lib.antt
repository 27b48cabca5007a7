pub mod Copied
pub mod Flags
pub mod Kept
pub mod Damaged
pub mod Neither

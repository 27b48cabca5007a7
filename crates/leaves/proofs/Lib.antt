pub mod Patterns
pub mod Masks
pub mod Shared

pub mod Passing
pub mod Free
pub mod Blanks
pub mod Walked
pub mod Sorted
pub mod Tested
pub mod Sound

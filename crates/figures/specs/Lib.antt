pub mod Shown
pub mod Figures

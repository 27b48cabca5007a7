pub mod Columns
pub mod Halves
pub mod Turning
pub mod RowSigns
pub mod Meaning

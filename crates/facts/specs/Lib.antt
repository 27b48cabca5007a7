pub mod Orders
pub mod Sequences
pub mod Permitted
pub mod Default
pub mod KeptCounts
pub mod OldDefault
pub mod Codes
pub mod Cuts

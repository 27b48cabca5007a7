pub mod Replied
pub mod Lent
pub mod LeafDigits

pub mod LongText
pub mod ShortText
pub mod Rows

pub mod Replies
pub mod Summary

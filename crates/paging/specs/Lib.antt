pub mod Paging
pub mod Calls
pub mod Inside

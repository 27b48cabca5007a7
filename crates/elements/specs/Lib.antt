pub mod Elements
pub mod Inside

pub mod First
pub mod Numbers
pub mod Tests

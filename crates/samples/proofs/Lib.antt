pub mod Reading
pub mod Test
pub mod Front

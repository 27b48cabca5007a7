pub mod Lesson
pub mod Course
pub mod Demand

pub mod Bytes
pub mod LessonOverC
pub mod ByValue
pub mod DemandOverC

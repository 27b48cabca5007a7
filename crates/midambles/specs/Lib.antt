pub mod TrainingSequences
pub mod Calls

pub mod OneRun
pub mod Runs
pub mod Counted

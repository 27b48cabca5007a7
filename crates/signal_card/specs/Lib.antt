pub mod SignalCard
pub mod Inside
pub mod Calls

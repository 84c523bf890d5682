pub mod Calls
pub mod Counts
pub mod Lines
pub mod Progress
pub mod Starts

pub mod Cuts
pub mod Places
pub mod Hex
pub mod Entries
pub mod Heads
pub mod Readers

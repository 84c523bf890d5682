pub mod Tested
pub mod Causes

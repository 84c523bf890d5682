pub mod Nexts
pub mod Steps
pub mod Stirring

pub mod Finds
pub mod Within

pub mod Checked
pub mod Forms
pub mod Solved
pub mod Vectors

pub mod Numbered
pub mod Lengths

pub mod Holding
pub mod Encoding
pub mod Dividing

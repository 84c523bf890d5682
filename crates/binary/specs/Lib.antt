pub mod Codes
pub mod Binary
pub mod Products
pub mod Coded

pub mod Alphabets
pub mod Digits
pub mod Symbols
pub mod Tables
pub mod Exponents
pub mod LinearMaps
pub mod Members

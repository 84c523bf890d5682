pub mod Sums
pub mod Codewords
pub mod Slots
pub mod Quotients

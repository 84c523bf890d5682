pub mod Field
pub mod Rows
pub mod Span
pub mod Reduced
pub mod Maps
pub mod Theorems

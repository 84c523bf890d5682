pub mod Polynomials
pub mod Coefficients
pub mod Division
pub mod Code
pub mod Interpolation
pub mod Distance
pub mod Theorems

pub mod Packets
pub mod HeaderBounds

pub mod Packets
pub mod Headers

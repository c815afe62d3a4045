pub mod Ranges
pub mod Packets

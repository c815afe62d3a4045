pub mod Packets
pub mod Messages
pub mod Reports
pub mod Halves

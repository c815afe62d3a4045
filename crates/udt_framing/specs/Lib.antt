pub mod Framing
pub mod Readers

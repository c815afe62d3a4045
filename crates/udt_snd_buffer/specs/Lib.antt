pub mod KeptParts
pub mod Buffers
pub mod Shown

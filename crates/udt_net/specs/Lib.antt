pub mod Networks
pub mod Speaking
pub mod Calls
pub mod Ends
pub mod MemoryNets

pub mod Counts
pub mod Addresses

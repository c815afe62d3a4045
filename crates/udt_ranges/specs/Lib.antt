pub mod Ranges
pub mod Merging
pub mod Offsets
pub mod Cursors
pub mod Chains

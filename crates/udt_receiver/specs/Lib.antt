pub mod Half
pub mod Gaps
pub mod Kept
pub mod Shown

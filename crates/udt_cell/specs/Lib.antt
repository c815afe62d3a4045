pub mod Entries
pub mod Sharing
pub mod Histories
pub mod Headline

mod Members
pub mod Names
pub mod Logs
pub mod Places
pub mod Steps
pub mod Splits
pub mod Joins
pub mod Learning
pub mod Working
pub mod Zips
pub mod Sending
pub mod ListByList
pub mod Listed

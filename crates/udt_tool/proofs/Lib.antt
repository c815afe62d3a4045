pub mod Pieces
pub mod Progress
pub mod Streaming
pub mod Replaying
pub mod ToldScripts
pub mod Orders
pub mod Printing

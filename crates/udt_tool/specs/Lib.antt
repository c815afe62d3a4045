pub mod Plays
pub mod Streamed
pub mod Commands
pub mod Told

pub mod Emitted
pub mod Sockets
pub mod Changes
pub mod Received
pub mod Backlogs
pub mod Phases
pub mod Waiting
pub mod Peers

-- What a socket begins with and keeps, and how records name one.
pub mod Begins
pub mod Opened
pub mod SuitedPeers
pub mod IdleFronts
pub mod ConnectedParts
pub mod WasSaid
pub mod OneSocket

-- What is delivered is a prefix of what the peer accepted.
pub mod WindowRises
pub mod PeerBlocksAlone
pub mod DeliveredPrefix

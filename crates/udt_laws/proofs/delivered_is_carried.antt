-- One history: what is delivered is made of what arrived.
pub mod GivenIsOfBlocks
pub mod ReportsLeave
pub mod DeliversPlacedBlocks
pub mod DeliveredIsCarried
pub mod SocketsDeliver

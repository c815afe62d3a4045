pub mod RoundTrips
pub mod AckHistories
pub mod Windows

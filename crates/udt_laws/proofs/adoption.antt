-- Sockets that are connected to each other name each other as peer.
pub mod Requests
pub mod OneAddress
pub mod PeersMeet
pub mod NamesBack
pub mod Agreement
pub mod Hears
pub mod MutualAdoption
pub mod SocketsInStep

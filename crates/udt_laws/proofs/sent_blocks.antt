-- What is sent: blocks of what was accepted, to the peer.
pub mod AcceptedIsCut
pub mod ReportsFit
pub mod NakRanges
pub mod EmissionsRead
pub mod SentBlocks
pub mod SocketsSend
pub mod GoesToPeer
pub mod NamedWasSent

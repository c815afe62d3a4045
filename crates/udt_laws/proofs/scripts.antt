-- The law of scripts.
pub mod ReplacedOne
pub mod FirstFound
pub mod RouteFinds
pub mod RequestHeard
pub mod WhoAdopted
pub mod UnadoptedPair
pub mod EachSocket
pub mod StandsThere
pub mod HostReached
pub mod EventPeer
pub mod KeptPeers
pub mod LineRanges
pub mod KeptByLines
pub mod ScriptNetworks
pub mod MadeSockets
pub mod KeepsNetwork
pub mod ScriptLawful

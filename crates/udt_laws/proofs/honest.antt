-- Records are honest where what arrives was said, and no socket takes too many bytes.
pub mod SaidByLines
pub mod NamedOffsets
pub mod TopBelow
pub mod EmissionsNearPeer
pub mod StandsNearPeer
pub mod NearRecords
pub mod ScriptPeers

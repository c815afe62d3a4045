pub mod TurnLemmas
pub mod JoinedLemmas
pub mod PartLemmas
pub mod SlotLemmas
pub mod RingLemmas

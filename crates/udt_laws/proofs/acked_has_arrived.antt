-- What counts as acknowledged has arrived.
pub mod CountsWithoutGap
pub mod BelowGapWasPlaced
pub mod EventsPlace
pub mod AcksNamePlaced
pub mod AckedWasNamed
pub mod PeerAcksAlone
pub mod SendsOneAnEvent
pub mod AckedHasArrived

mod NakLemmas
mod BlockLemmas
pub mod EmittedLemmas
pub mod TickLemmas
pub mod MomentTimes
pub mod ShakeMoments
pub mod MomentLemmas

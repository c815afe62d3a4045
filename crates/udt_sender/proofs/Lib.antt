pub mod BlockLemmas
pub mod LostLemmas
pub mod MessageLemmas
pub mod PackLemmas
pub mod ReportLemmas

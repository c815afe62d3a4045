pub mod ListedLemmas
pub mod MissingLemmas
pub mod RunLemmas
pub mod ReportLemmas
pub mod PlainLemmas
pub mod DueLemmas
